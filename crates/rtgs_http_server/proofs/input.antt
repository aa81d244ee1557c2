mod Believed
mod Joined
mod Known
mod StepOutcomes
