-- A refusal comes before the end is said, or behind it.
-- Assumes nothing.
use Rattle.std.proofs.Common.{rules}
use Rattle.stream.specs.Runs.{before_end, behind_end}
use Rattle.stream.proofs.running.run.Goals as goal

pub returns-in_err-code_coming-clause-refused : goal.returns-in_err-code_coming-clause-refused
returns-in_err-code_coming-clause-refused g c = search (rules, before_end)

pub returns-clause-refused : goal.returns-clause-refused
returns-clause-refused g c = search (rules, behind_end)
