pub mod StrictAnswers
mod StrictCompacting
mod StrictSteps
mod StrictDone
mod StrictRetaining
mod Draining
