pub mod CyclesFound
