use Rattle.std.proofs.Common.{◌≡◌, ◌++◌, map}
use Rattle.policy_expressions.specs.declared.kinds.PatternElem.TheVariants.{Char}
use Rattle.json_expressions.proofs.parts.push_chars.Given as goal

-- behind the elements stand the characters so far
abbrev pub invariant-loop-c : goal.invariant-loop-c
invariant-loop-c l = l.all.items ≡ l.fn.elements.items ++ map Char l.yielded
