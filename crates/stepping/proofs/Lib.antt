mod Names
mod OnePath
mod OldConnections
mod Processing
mod Extending
mod FoundInterfaces
mod StepsTaken
mod Visits
