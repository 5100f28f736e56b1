use Rattle.std.proofs.Common.{◌≡◌, map, string_bytes, take}
use Rattle.palvumiose_c.proofs.own.Given as goal

-- so far the words are the texts so far
abbrev pub invariant-loop-text : goal.invariant-loop-text
invariant-loop-text l = map string_bytes l.words.items ≡ map (λ t. t.now) (take l.text-index l.texts)
