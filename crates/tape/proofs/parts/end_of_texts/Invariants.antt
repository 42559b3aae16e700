use Rattle.std.proofs.Common.{◌≡◌, ◌+◌, ◌≤◌, drop}
use Rattle.tape.specs.Parts.{total}
use Rattle.tape.proofs.parts.end_of_texts.Given as goal

-- what is left ends where all of it does
abbrev pub invariant-loop-word : goal.invariant-loop-word
invariant-loop-word l = (l.end ≤ l.len) × (l.end + total (drop l.word-index l.words) ≡ l.position + total l.words)
