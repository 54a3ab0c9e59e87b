-- The history that the code moves, the sums that it takes and the columns that it folds are those of the definition.
mod History
mod Windows
mod Columns
