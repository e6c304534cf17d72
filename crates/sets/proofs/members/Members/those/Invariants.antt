-- No more are kept than were passed, and of those passed the ones that the test chooses.
use Rattle.std.proofs.Common.{◌≤◌, ◌≡◌, Bool, true, take}
use Rattle.sets.specs.Members.{those, set_of, tidy}
use Rattle.sets.specs.declared.members.Member.{Member}
use Rattle.sets.proofs.members.Members.those.Given as goal

abbrev pub invariant-loop-member : goal.invariant-loop-member
invariant-loop-member g l = record {
  in_form : tidy l.kept ≡ true;
  few : l.kept.count ≤ l.member-index;
  chosen :
      (passes : Member → Bool)
      → ((m : Member) (b : Bool) → goal.F-post g l.test m b → b ≡ passes m)
      → l.kept ≡ set_of (those passes (take l.member-index l.member-items));
}
