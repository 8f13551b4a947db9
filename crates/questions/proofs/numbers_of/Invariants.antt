-- The invariant: with the characters that are left, the numbers are what they shall be.
use Rattle.std.proofs.Common.{◌≡◌, ◌<◌, drop, replicate}
use Rattle.questions.specs.Questions.{figures_in}
use Rattle.questions.proofs.numbers_of.Given as goal

abbrev pub invariant-loop-c : goal.invariant-loop-c
invariant-loop-c l = (l.at < 16) × (figures_in l.at l.numbers (drop l.c-index l.figures) ≡ figures_in 15 (replicate 16 0) l.figures)
