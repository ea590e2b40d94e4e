pub mod StepCounts
