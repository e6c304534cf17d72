-- The second sheet of the page Demands.antt: "Every event record, state, stored image and log gets an answer, and no caller has to check
-- anything first." Each door of docs/EXCEPTIONS.md has a line: whatever satisfies its contract is the answer that stands here, and of
-- what is lent the bytes that stand here, so there is no second one. That there is one, and that nothing is asked of the caller, is the
-- checker's acceptance of a function whose contract has no `requires` (docs/CONTRACTS.txt). Behind a name stand its refusals, first that
-- applies. What answers by an enum is told in the numbers of document 01, and no second answer is told so.
use mathlib.Core.Path.{◌≡◌, sym, ap₂, ◌∙◌}
use lib.ListN.{length}
use seplogic.Ra.Ura.{Ura}
use base.Logic.{SProp, ent}
use prog.Memory.{Memory}
use prog.Routine.{Routine}
use types.Logic.{Logic}
use contract.Monad.{Fun, fact}
use Rattle.demands.specs.Words.{Bytes, One, OneLent}
use Rattle.record.specs.Records.{reading}
use Rattle.record.specs.Takes.{taken}
use Rattle.record.specs.Readings.{told_reading}
use Rattle.record.specs.Stops.{told_taken}
use Rattle.record.proofs.Told.{told-one, taken-one}
use Rattle.unit.specs.States.{cold_start, default_start, sound}
use Rattle.unit.specs.OnRecords.{applied, on_record, written}
use Rattle.unit.specs.Forms.{packed, stepped}
use Rattle.unit.specs.Runs.{run}
use Rattle.image.specs.Images.{write_a2, imaged_a2, write_a1, imaged_a1, read_image, read_a2}
use Rattle.image.specs.Calls.{on_image, image_after, actions_after, called_by}
use Rattle.image.specs.Rescue.{rescue, rescued}
use Rattle.text.specs.Sheets.{sheet_count, sheet_placed}
use Rattle.onsight.specs.Procedures as onsight
use Rattle.sets.specs.SixSets.{set_start, set_ready}
use Rattle.sets.specs.OnSets.{set_listed, apply_sets, set_stepped, on_sets, set_buffer}
use Rattle.sets.specs.SetRuns.{set_run}
use Rattle.judge.specs.Judging.{judgement}
use Rattle.judge.specs.Readers.{reader_judged}
use Rattle.judge.specs.Producing.{produced, produced_room}
use Rattle.shunter.specs.Queues.{cold_shunter, ready}
use Rattle.shunter.specs.Shunting.{shunted, applying, sent_of, shunt, sent_buffer}
use Rattle.shunter.specs.ShunterRuns.{shunter_run}
use Rattle.marks.specs.Building.{built, built_room, extended, extended_room}
use Rattle.marks.specs.Lookup.{looked_up}
use Rattle.firmware.specs.Calls.{seen_after}
use Rattle.firmware.specs.Starts.{limits_of, start_returned, start_image}
use Rattle.asks.specs.Asks.{reads_returned, standing_returned}
use Rattle.record.proofs as in-record
use Rattle.unit.proofs as in-unit
use Rattle.image.proofs as in_image
use Rattle.text.proofs as in-text
use Rattle.onsight.proofs as in-onsight
use Rattle.sets.proofs as in-sets
use Rattle.judge.proofs as in-judge
use Rattle.judge.specs.contracts as in-judge-contracts
use Rattle.shunter.proofs as in-shunter
use Rattle.marks.proofs as in-marks
use Rattle.firmware.proofs as in-firmware
use Rattle.asks.proofs as in-asks

-- demand D-1-1: `unit:cold_start`, of X numbers and n: 13
pub cold-start-once : One in-unit.start.cold_start.Reads.Post (λ (limits, _). cold_start limits)
cold-start-once κ entry exit r p = p

-- demand D-1-1: `unit:default_start`, of X numbers: 13
pub default-start-once : One in-unit.start.default_start.Reads.Post (λ (lowest, (highest, _)). default_start lowest highest)
default-start-once κ entry exit r p = p

-- demand D-1-1: `unit:State.is_sound`: no refusal
pub is-sound-once : One in-unit.state.State.is_sound.Reads.Post (λ (s, _). sound s)
is-sound-once κ entry exit r p = p

-- demand D-1-1: `unit:State.apply`, of a state and a record: 11, 1, 2, 1, 3, then the event's
pub apply-once : One in-unit.state.State.apply.Reads.Post (λ (s, (bytes, _)). packed (applied s bytes.now))
apply-once κ entry exit r p = p

-- demand D-1-1: `unit:State.on_record`, of a state, a record and a lent action buffer: 10, then as apply
pub on-record-once : OneLent in-unit.state.State.on_record.Reads.Post (λ (_, (_, (buffer, _))). buffer.now)
    (λ (s, (bytes, (buffer, _))). (
      stepped (on_record s bytes.now (length buffer.now)),
      written (on_record s bytes.now (length buffer.now)).actions buffer.now,
    ))
on-record-once κ entry exit r p = p

-- demand D-1-1: `unit:run`, of a state, a log and a budget of records: 12, 11
pub run-once : One in-unit.run.run.Reads.Post (λ (s, (log, (budget, _))). run s log.now budget)
run-once κ entry exit r p = p

-- demand D-1-1: `record:read`, of a record: 1, 2, 1, 3
pub read-once : (κ : _) (entry : _) (exit : _) (other : _) (r : _) (q : _)
    → in-record.read.read.Reads.Post κ entry r exit
    → in-record.read.read.Reads.Post κ entry q other
    → (told_reading r ≡ reading entry.0.now) × (r ≡ q)
read-once κ entry exit other r q first second = (first, told-one r q (first ∙ sym second))

-- demand D-1-1: `record:take`, of a log: 12
pub take-once : (κ : _) (entry : _) (exit : _) (other : _) (r : _) (q : _)
    → in-record.take.take.Reads.Post κ entry r exit
    → in-record.take.take.Reads.Post κ entry q other
    → (told_taken r ≡ taken entry.0.now) × (r ≡ q)
take-once κ entry exit other r q first second = (first, taken-one r q (first ∙ sym second))

-- demand D-1-1: `image:write_a2`, of a state and a lent buffer: 10, 11
pub write-a2-once : OneLent in_image.write.write_a2.Reads.Post (λ (_, (buffer, _)). buffer.now)
    (λ (s, (buffer, _)). (write_a2 s (length buffer.now), imaged_a2 s buffer.now))
write-a2-once κ entry exit r p = p

-- demand D-1-1: `image:write_a1`, of a state and a lent buffer: 10, 11, 16
pub write-a1-once : OneLent in_image.write.write_a1.Reads.Post (λ (_, (buffer, _)). buffer.now)
    (λ (s, (buffer, _)). (write_a1 s (length buffer.now), imaged_a1 s buffer.now))
write-a1-once κ entry exit r p = p

-- demand D-1-1: `image:read_image`, of an image of either kind: 1, 2, 1, 11
pub read-image-once : One in_image.read.read_image.Reads.Post (λ (bytes, _). read_image bytes.now)
read-image-once κ entry exit r p = p

-- demand D-1-1: `image:read_a2`, of an image A2: 1, 2, 1, 11
pub read-a2-once : One in_image.read.read_a2.Reads.Post (λ (bytes, _). read_a2 bytes.now)
read-a2-once κ entry exit r p = p

-- demand D-1-1: `image:rescue`, of a lent image A2: 1, 2, 1, then 11 for the X numbers or n
pub rescue-once : OneLent in_image.rescue.rescue.Reads.Post (λ (image, _). image.now)
    (λ (image, _). (rescue image.now, rescued image.now))
rescue-once κ entry exit r p = p

-- demand D-1-1: `image:step_image`, of a lent image A2, a record and a lent action buffer: 10, then 1, 2, 1, 11 of the image, then
-- 1, 2, 1, 3 and the event's
pub step-image-once : OneLent {L = Bytes × Bytes} in_image.call.step_image.Reads.Post
    (λ (image, (_, (actions, _))). (image.now, actions.now))
    (λ (image, (bytes, (actions, _))). (
      called_by (on_image image.now bytes.now (length actions.now)),
      (
        image_after (on_image image.now bytes.now (length actions.now)) image.now,
        actions_after (on_image image.now bytes.now (length actions.now)) actions.now,
      ),
    ))
step-image-once κ entry exit r p = (p.0, ap₂ (λ a b. (a, b)) p.1 p.2)

-- demand D-1-1: `text:sheet_into`, of a log and a lent buffer: 0 bytes where it is under the room that every sheet has
pub sheet-into-once : OneLent in-text.sheet.sheet_into.Reads.Post (λ (_, (buffer, _)). buffer.now)
    (λ (input, (buffer, _)). (sheet_count input.now (length buffer.now), sheet_placed input.now buffer.now))
sheet-into-once κ entry exit r p = p

-- demand D-1-1: `onsight:State.step`, of a state and an event: 14
pub on-sight-step-once : One in-onsight.procedure.State.step.Reads.Post (λ (s, (event, _)). onsight.step s event)
on-sight-step-once κ entry exit r p = p

-- demand D-1-1: `sets:set_start`, of X numbers and n: 13
pub set-start-once : One in-sets.start.set_start.Reads.Post (λ (limits, _). set_start limits)
set-start-once κ entry exit r p = p

-- demand D-1-1: `sets:SetState.is_sound`: no refusal
pub set-is-sound-once : One in-sets.state.SetState.is_sound.Reads.Post (λ (b, _). set_ready b)
set-is-sound-once κ entry exit r p = p

-- demand D-1-1: `sets:SetState.apply`, of a state and a record: as the place engine's
pub set-apply-once : One in-sets.state.SetState.apply.Reads.Post (λ (b, (bytes, _)). set_listed (apply_sets b bytes.now))
set-apply-once κ entry exit r p = p

-- demand D-1-1: `sets:SetState.on_record`, of a state, a record and a lent action buffer: as the place engine's
pub set-on-record-once : OneLent in-sets.state.SetState.on_record.Reads.Post (λ (_, (_, (buffer, _))). buffer.now)
    (λ (b, (bytes, (buffer, _))). (set_stepped (on_sets b bytes.now (length buffer.now)), set_buffer b bytes.now buffer.now))
set-on-record-once κ entry exit r p = p

-- demand D-1-1: `sets:run`, of a state, a log and a budget of records: 12, 11
pub set-run-once : One in-sets.run.run.Reads.Post (λ (b, (log, (budget, _))). set_run b log.now budget)
set-run-once κ entry exit r p = p

-- demand D-1-1: `judge:judge`, of a cold start and a sheet: 13, 12
pub judge-once : One in-judge.judge.judge.Reads.Post (λ (limits, (sheet, _)). judgement limits sheet.now)
judge-once κ entry exit r p = p

-- demand D-1-1: `judge:Reader.judged`, of a reader of a lent sheet and a cold start: 13, 12; in every model, of what entails the contract
pub judged-once : {M : Type 1} {U : Ura M} (𝓛 : Logic U) (mem : Memory → SProp U) (run : Routine → Fun U) (P : SProp U)
    (κ : _) (reader : _) (limits : _) (r : _)
    → ent U P
    ((in-judge-contracts.reader.Reader.judged.clauses 𝓛 mem run κ (reader, (limits, tt))).ensures tt r (reader, (limits, tt)))
    → ent U P (fact U (r ≡ reader_judged reader limits))
judged-once 𝓛 mem run P κ reader limits r p = p

-- demand D-1-1: `judge:produce`, of a cold start, a log and lent room: 13, 12, 12, 10
pub produce-once : OneLent in-judge.produce.produce.Reads.Post (λ (_, (_, (buffer, _))). buffer.now)
    (λ (limits, (log, (room, _))). (produced limits log.now (length room.now), produced_room limits log.now room.now))
produce-once κ entry exit r p = p

-- demand D-1-1: `shunter:fit`, of X numbers and n: 13
pub fit-once : One in-shunter.start.fit.Reads.Post (λ (limits, _). cold_shunter limits)
fit-once κ entry exit r p = p

-- demand D-1-1: `shunter:Shunter.is_ready`: no refusal
pub is-ready-once : One in-shunter.state.Shunter.is_ready.Reads.Post (λ (h, _). ready h)
is-ready-once κ entry exit r p = p

-- demand D-1-1: `shunter:Shunter.apply`, of a shunter and a record: 11, 1, 2, 1, 3, 18, then the event's, 17
pub shunter-apply-once : One in-shunter.state.Shunter.apply.Reads.Post (λ (h, (bytes, _)). shunted (applying h bytes.now))
shunter-apply-once κ entry exit r p = p

-- demand D-1-1: `shunter:Shunter.on_record`, of a shunter, a record and a lent action buffer: 10, then as apply
pub shunter-on-record-once : OneLent in-shunter.state.Shunter.on_record.Reads.Post (λ (_, (_, (buffer, _))). buffer.now)
    (λ (h, (bytes, (buffer, _))). (sent_of (shunt h bytes.now (length buffer.now)), sent_buffer h bytes.now buffer.now))
shunter-on-record-once κ entry exit r p = p

-- demand D-1-1: `shunter:run`, of a shunter, a log and a budget of records: 12, 11
pub shunter-run-once : One in-shunter.run.run.Reads.Post (λ (h, (log, (budget, _))). shunter_run h log.now budget)
shunter-run-once κ entry exit r p = p

-- demand D-1-1: `marks:build`, of a cold start, a log and lent room: 13, 12, 10
pub build-once : OneLent in-marks.build.build.Reads.Post (λ (_, (_, (buffer, _))). buffer.now)
    (λ (limits, (log, (room, _))). (built limits log.now room.now, built_room limits log.now room.now))
build-once κ entry exit r p = p

-- demand D-1-1: `marks:extend`, of a cold start, a log, how many marks are held, and lent room: 13, 12, 11, 10
pub extend-once : OneLent in-marks.build.extend.Reads.Post (λ (_, (_, (_, (buffer, _)))). buffer.now)
    (λ (limits, (log, (held, (room, _)))). (extended limits log.now held room.now, extended_room limits log.now held room.now))
extend-once κ entry exit r p = p

-- demand D-1-1: `marks:look_up`, of a cold start, a log, marks and n: 13, 12, 19, 11, 19
pub look-up-once : One in-marks.lookup.look_up.Reads.Post (λ (limits, (log, (marks, (n, _)))). looked_up limits log.now marks.now n)
look-up-once κ entry exit r p = p

-- demand D-1-1: `firmware:resheftal_cold_start`, of X numbers, n and a lent image: 13, 10, as minus the number
pub firmware-start-once : OneLent in-firmware.start.resheftal_cold_start.Reads.Post (λ (_, (_, (_, (buffer, _)))). buffer.now)
    (λ (lowest, (highest, (tries, (image, _)))). (
      start_returned (limits_of lowest highest tries) (length image.now),
      start_image (limits_of lowest highest tries) image.now,
    ))
firmware-start-once κ entry exit r p = p

-- demand D-1-1: `firmware:resheftal_step`, of a lent image, a record and a lent action buffer: 10, then 1, 2, 1, 11 of the image, then
-- 1, 2, 1, 3 and the event's, as minus the number
pub firmware-step-once : OneLent {L = Bytes × Bytes} in-firmware.step.resheftal_step.Reads.Post
    (λ (image, (_, (buffer, _))). (image.now, buffer.now))
    (λ (image, (bytes, (buffer, _))). (
      (seen_after image.now bytes.now buffer.now).number,
      ((seen_after image.now bytes.now buffer.now).image, (seen_after image.now bytes.now buffer.now).actions),
    ))
firmware-step-once κ entry exit r p = (p.0, ap₂ (λ a b. (a, b)) p.1 p.2)

-- demand D-1-1: `asks:resheftal_reads`, of an image: 1, 2, 1, 11, as minus the number
pub asks-reads-once : One in-asks.ask.resheftal_reads.Reads.Post (λ (image, _). reads_returned image.now)
asks-reads-once κ entry exit r p = p

-- demand D-1-1: `asks:resheftal_standing`, of an image and a record: 1, 2, 1, 11 of the image, as minus the number
pub asks-standing-once : One in-asks.ask.resheftal_standing.Reads.Post
    (λ (image, (bytes, _)). standing_returned image.now bytes.now)
asks-standing-once κ entry exit r p = p
