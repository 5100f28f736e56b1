-- Steps on known bytes, one after another.
use Rattle.std.proofs.Common.{◌≡◌, ℕ, ◌+◌, ◌-◌, List, ◌++◌, take, drop, length, Option, None, Some, append_assoc, length-append, length-drop, sym, ap, ◌∙◌, arith}
use Rattle.std.proofs.lemmas.List.{take-append-drop, drop-drop, take_all}
use Rattle.std.proofs.Math.Seq.{take-add}
use Rattle.std.specs.Io.KnownBytes.{Appends, Consumes}
use Rattle.byte_streams.specs.Document.{Takes}
use Rattle.byte_streams.specs.State.{SourceState}

consumes_more : (a b c : Option (List ℕ)) (xs ys : List ℕ) → Consumes a b xs → Consumes b c ys → Consumes a c (xs ++ ys)
consumes_more None b c xs ys p q = tt
consumes_more (Some xs0) None c xs ys p q = absurd p
consumes_more (Some xs0) (Some bs) None xs ys p q = absurd q
consumes_more (Some xs0) (Some bs) (Some cs) xs ys p q = p ∙ ap (λ r. xs ++ r) q ∙ sym (append_assoc xs ys cs)

-- bytes that were taken, and then more bytes
pub takes_more : (a b c : SourceState) (xs ys : List ℕ) → Takes a b xs → c.taken ≡ b.taken + length ys → Consumes b.left c.left ys → Takes a c (xs ++ ys)
takes_more a b c xs ys p more q = (simp length-append (omega (arith, p.0)), consumes_more a.left b.left c.left xs ys p.1 q)

appends_more : (a b c : Option (List ℕ)) (xs ys : List ℕ) → Appends a b xs → Appends b c ys → Appends a c (xs ++ ys)
appends_more None b c xs ys p q = tt
appends_more (Some xs0) None c xs ys p q = absurd p
appends_more (Some xs0) (Some bs) None xs ys p q = absurd q
appends_more (Some xs0) (Some bs) (Some cs) xs ys p q = q ∙ ap (λ r. r ++ ys) p ∙ append_assoc xs0 xs ys

-- what is left after the first bytes is the next n of it, and what is left after these
pub drop_piece : (at n : ℕ) (xs : List ℕ) → drop at xs ≡ take n (drop at xs) ++ drop (at + n) xs
drop_piece at n xs = sym (take-append-drop n (drop at xs)) ∙ ap (λ r. take n (drop at xs) ++ r) (drop-drop n at xs)

pub rest_whole : (at : ℕ) (xs : List ℕ) → take (length xs - at) (drop at xs) ≡ drop at xs
rest_whole at xs = take_all (length xs - at) (drop at xs) (simp length-drop (omega arith))

-- a write that took n bytes of the text from at on
pub appends_piece : (a b c : Option (List ℕ)) (at n : ℕ) (xs : List ℕ) → Appends a b (take at xs)
    → Appends b c (take n (take (length xs - at) (drop at xs))) → Appends a c (take (at + n) xs)
appends_piece a b c at n xs p q =
    let q' : Appends b c (take n (drop at xs)) = rw rest_whole at q in
    rw (take-add at n xs) (appends_more a b c (take at xs) (take n (drop at xs)) p q')
