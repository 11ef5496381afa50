pub mod ExamplesHold
