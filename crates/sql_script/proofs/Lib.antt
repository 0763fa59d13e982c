mod Figures
mod FirstLines
mod Fronts
mod Numbers
mod Printed
mod Sentences
mod Spelling
mod TextSteps
pub mod OneReading
