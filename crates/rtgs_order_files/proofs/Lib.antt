mod DueFields
mod Fields
mod Lines
mod OrderFiles
mod Plain
mod ReaderSteps
