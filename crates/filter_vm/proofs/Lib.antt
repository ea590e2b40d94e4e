pub mod MachineSteps
