pub mod Machines
pub mod MachineRuns
pub mod Counting
