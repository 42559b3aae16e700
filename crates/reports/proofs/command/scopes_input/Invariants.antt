use Rattle.std.proofs.Common.{◌≡◌, None, map, drop}
use Rattle.std.specs.Prelude.{string_bytes}
use Rattle.std.specs.Option.{option_map}
use Rattle.reports.specs.Arguments.{after_scopes}
use Rattle.reports.proofs.command.scopes_input.Given as goal

-- the words that are left, behind the file so far, ask for what all of them ask for
abbrev pub invariant-loop-word : goal.invariant-loop-word
invariant-loop-word l = after_scopes None (map string_bytes l.words) ≡ after_scopes (option_map (λ x. x.now) l.input) (map string_bytes (drop l.word-index l.words))
