mod CellLaws
mod MarginLaws
