-- Bytes of a line, taken one after another.
use Rattle.std.proofs.Common.{◌≡◌, ◌+◌, ◌<◌, ◌≤◌, ◌++◌, ◌&&◌, length, drop, get_or, arith, length-append, ℕ, Bool, true, false, List, [], ◌∷◌, Option, None, Some, append_assoc, sym, ap, refl, subst, ◌∙◌, inl, inr, ◌⊎◌}
use Rattle.std.specs.Prelude.{◌≢◌, eqb, not, is_ok, is_err, if◌then◌else◌, Result, Ok, Err}
use Rattle.std.proofs.lemmas.Bool.{eqb-true}
use Rattle.std.specs.Io.KnownBytes.{Consumes, Keeps, IsAtEnd, prepend_known}
use Rattle.std.proofs.lemmas.List.{drop_all, at_drop_more}
use Rattle.byte_streams.specs.declared.lines.Line.{Line}
use Rattle.byte_streams.specs.declared.lines.Line.TheVariants as line
use Rattle.byte_streams.specs.declared.lines.NextByte.{NextByte}
use Rattle.byte_streams.specs.declared.lines.NextByte.TheVariants as next
use Rattle.byte_streams.specs.declared.reading.TheConstants.{DOCUMENT_LIMIT}
use Rattle.byte_streams.specs.Lines.{is_plain, TakesLine, TakesRest, GivesByte, IsReported, IsRest, IsEnd, IsLast, IsNext}

pub consumes_more : (a b c : Option (List ℕ)) (xs ys : List ℕ) → Consumes a b xs → Consumes b c ys → Consumes a c (xs ++ ys)
consumes_more None b c xs ys p q = tt
consumes_more (Some xs0) None c xs ys p q = absurd p
consumes_more (Some xs0) (Some bs) None xs ys p q = absurd q
consumes_more (Some xs0) (Some bs) (Some cs) xs ys p q = p ∙ ap (λ r. xs ++ r) q ∙ sym (append_assoc xs ys cs)

pub consumes_keeps : (a b c : Option (List ℕ)) (xs : List ℕ) → Consumes a b xs → Keeps b c → Consumes a c xs
consumes_keeps None b c xs p q = tt
consumes_keeps (Some xs0) None c xs p q = absurd p
consumes_keeps (Some xs0) (Some bs) None xs p q = absurd q
consumes_keeps (Some xs0) (Some bs) (Some cs) xs p q = p ∙ ap (λ r. xs ++ r) (sym q)

-- nothing was taken
keeps_none : (a b c : Option (List ℕ)) → Consumes a b [] → Keeps b c → Keeps a c
keeps_none None b c p q = tt
keeps_none (Some xs) None c p q = absurd p
keeps_none (Some xs) (Some bs) None p q = absurd q
keeps_none (Some xs) (Some bs) (Some cs) p q = q ∙ sym p

pub plain_more : (xs ys : List ℕ) → is_plain xs ≡ true → is_plain ys ≡ true → is_plain (xs ++ ys) ≡ true
plain_more [] ys p q = q
plain_more (x ∷ xs) ys p q = by (λ h. plain_more xs ys h q) (not (eqb x 10)) p
  where
    by : (is_plain xs ≡ true → is_plain (xs ++ ys) ≡ true) → (b : Bool) → (b && is_plain xs) ≡ true → (b && is_plain (xs ++ ys)) ≡ true
    by rest true h = rest h
    by rest false h = absurd cc

-- a prefix that is not empty, and more
pub some_more : (xs ys : List ℕ) → xs ≢ [] → (xs ++ ys) ≢ []
some_more [] ys some h = some refl
some_more (x ∷ xs) ys some h = absurd cc

-- a prefix of the line, and then its rest
pub line_more : (a b c : Option (List ℕ)) (xs ys : List ℕ) → is_plain xs ≡ true → xs ≢ [] → Consumes a b xs → TakesRest b c ys → TakesLine a c (xs ++ ys)
line_more a b c xs ys plain some p q = (plain_more xs ys plain q.0, by q.1)
  where
    by : Consumes b c (ys ++ (10 ∷ [])) ⊎ (Consumes b c ys × IsAtEnd c) → Consumes a c ((xs ++ ys) ++ (10 ∷ [])) ⊎ (Consumes a c (xs ++ ys) × IsAtEnd c × ((xs ++ ys) ≢ []))
    by (inl h) = inl (subst (Consumes a c) (sym (append_assoc xs ys (10 ∷ []))) (consumes_more a b c xs (ys ++ (10 ∷ [])) p h))
    by (inr h) = inr (consumes_more a b c xs ys p h.0, h.1, some_more xs ys some)

-- what is taken of a line is taken of its rest
rest_of : (a c : Option (List ℕ)) (bytes : List ℕ) → TakesLine a c bytes → TakesRest a c bytes
rest_of a c bytes p = (p.0, by p.1)
  where
    by : Consumes a c (bytes ++ (10 ∷ [])) ⊎ (Consumes a c bytes × IsAtEnd c × (bytes ≢ [])) → Consumes a c (bytes ++ (10 ∷ [])) ⊎ (Consumes a c bytes × IsAtEnd c)
    by (inl h) = inl h
    by (inr h) = inr (h.0, h.1)

-- a byte that is no newline
plain_byte : (b : ℕ) → ¬ (b ≡ 10) → is_plain (b ∷ []) ≡ true
plain_byte b other = by (eqb b 10) refl
  where
    by : (t : Bool) → (eqb b 10) ≡ t → (not t && true) ≡ true
    by true e = absurd (other (eqb-true b 10 e))
    by false e = refl

prepend_nil : (o : Option (List ℕ)) → prepend_known [] o ≡ o
prepend_nil None = refl
prepend_nil (Some xs) = refl

-- all of a piece was passed on
passed : (at : ℕ) (bs : List ℕ) (old : Option (List ℕ)) → length bs ≤ at → prepend_known (drop at bs) old ≡ old
passed at bs old h = ap (λ xs. prepend_known xs old) (drop_all at bs h) ∙ prepend_nil old

-- nothing is left behind a piece that was passed on
pub ended : (at : ℕ) (bs piece : List ℕ) (old new : Option (List ℕ)) → length bs ≤ at → piece ≡ [] → Keeps old new → IsAtEnd new
    → Keeps (prepend_known (drop at bs) old) (prepend_known (drop 0 piece) new) × IsAtEnd (prepend_known (drop 0 piece) new)
ended at bs piece old new all none keeps end =
    let now : prepend_known (drop 0 piece) new ≡ new = ap (λ xs. prepend_known xs new) none ∙ prepend_nil new in
    (subst (λ o. Keeps o (prepend_known (drop 0 piece) new)) (sym (passed at bs old all)) (subst (Keeps old) (sym now) keeps), subst IsAtEnd (sym now) end)

-- the next byte of a piece
pub stepped : (at b : ℕ) (bs : List ℕ) (left : Option (List ℕ)) → at < length bs → b ≡ get_or bs at b
    → Consumes (prepend_known (drop at bs) left) (prepend_known (drop (at + 1) bs) left) (b ∷ [])
stepped at b bs None h is = tt
stepped at b bs (Some xs) h is =
    at_drop_more (λ ys. ys ++ xs) bs at b h ∙ ap (λ y. y ∷ (drop (at + 1) bs ++ xs)) (sym is)

-- the first byte of a piece that was read where all of the last one was passed on
pub refilled : (at b : ℕ) (bs piece : List ℕ) (old new : Option (List ℕ)) → length bs ≤ at → Consumes old new piece → 0 < length piece → b ≡ get_or piece 0 b
    → Consumes (prepend_known (drop at bs) old) (prepend_known (drop (0 + 1) piece) new) (b ∷ [])
refilled at b bs piece old new all takes some is =
    subst (λ o. Consumes o (prepend_known (drop (0 + 1) piece) new) (b ∷ [])) (sym (passed at bs old all)) (by old new takes)
  where
    by : (o n : Option (List ℕ)) → Consumes o n piece → Consumes o (prepend_known (drop (0 + 1) piece) n) (b ∷ [])
    by None n h = tt
    by (Some xs) None h = absurd h
    by (Some xs) (Some ys) h = h ∙ at_drop_more (λ zs. zs ++ ys) piece 0 b some ∙ ap (λ y. y ∷ (drop (0 + 1) piece ++ ys)) (sym is)

pub some_in : (bs : List ℕ) → bs ≢ [] → 0 < length bs
some_in [] h = absurd (h refl)
some_in (b ∷ bs) h = omega arith

-- a prefix of a line, and its next byte
pub prefix_more : (a b c : Option (List ℕ)) (prefix : List ℕ) (byte : ℕ) → is_plain prefix ≡ true → Consumes a b prefix → ¬ (byte ≡ 10) → Consumes b c (byte ∷ [])
    → (is_plain (prefix ++ (byte ∷ [])) ≡ true) × Consumes a c (prefix ++ (byte ∷ []))
prefix_more a b c prefix byte plain taken other next = (plain_more prefix (byte ∷ []) plain (plain_byte byte other), consumes_more a b c prefix (byte ∷ []) taken next)

pub newline_ends : (a b c : Option (List ℕ)) (prefix : List ℕ) → is_plain prefix ≡ true → Consumes a b prefix → Consumes b c (10 ∷ []) → TakesLine a c prefix
newline_ends a b c prefix plain taken next = (plain, inl (consumes_more a b c prefix (10 ∷ []) taken next))

pub rest_ends : (a b c : Option (List ℕ)) (prefix : List ℕ) → is_plain prefix ≡ true → Consumes a b prefix → Consumes b c (10 ∷ []) → TakesRest a c prefix
rest_ends a b c prefix plain taken next = (plain, inl (consumes_more a b c prefix (10 ∷ []) taken next))

pub end_ends : (a b c : Option (List ℕ)) (prefix : List ℕ) → is_plain prefix ≡ true → Consumes a b prefix → Keeps b c × IsAtEnd c → TakesRest a c prefix
end_ends a b c prefix plain taken end = (plain, inr (consumes_keeps a b c prefix taken end.0, end.1))

-- of a line there is a byte
line_ends : (a b c : Option (List ℕ)) (prefix : List ℕ) → is_plain prefix ≡ true → prefix ≢ [] → Consumes a b prefix → Keeps b c × IsAtEnd c → TakesLine a c prefix
line_ends a b c prefix plain some taken end = (plain, inr (consumes_keeps a b c prefix taken end.0, end.1, some))

-- a byte that was known from a newline
pub known_byte : (a b : Option (List ℕ)) (byte : ℕ) (r : NextByte) → IsReported byte r → Consumes a b (byte ∷ []) → GivesByte a b r
known_byte a b byte (next.Byte x) is taken = (is.0, subst (λ y. Consumes a b (y ∷ [])) (sym is.1) taken)
known_byte a b byte next.Newline is taken = subst (λ y. Consumes a b (y ∷ [])) is taken
known_byte a b byte next.End is taken = absurd is
known_byte a b byte next.Failed is taken = absurd is
known_byte a b byte next.OutOfMemory is taken = absurd is

-- a byte more than a line may have, and the rest of the line
pub rest_behind : (a b c : Option (List ℕ)) (byte : ℕ) (prefix : List ℕ) (r : Line) → ¬ (byte ≡ 10) → Consumes a b (byte ∷ []) → IsRest b c r → IsEnd a c prefix r
rest_behind a b c byte prefix (line.Text v) other h rest = absurd rest
rest_behind a b c byte prefix line.TooLong other h rest = (byte ∷ rest.0, λ e. absurd cc, rest_of a c (byte ∷ rest.0) (line_more a b c (byte ∷ []) rest.0 (plain_byte byte other) (λ e. absurd cc) h rest.1))
rest_behind a b c byte prefix line.End other h rest = absurd rest
rest_behind a b c byte prefix line.Failed other h rest = tt
rest_behind a b c byte prefix line.OutOfMemory other h rest = tt

-- the end of the source behind the bytes of a line
pub last_is : (a b c : Option (List ℕ)) (prefix : List ℕ) (r : Line) → length prefix ≤ DOCUMENT_LIMIT → is_plain prefix ≡ true → Consumes a b prefix → Keeps b c × IsAtEnd c → IsLast prefix r → IsNext a c r
last_is a b c prefix (line.Text v) short plain taken end is =
    (subst (λ xs. length xs ≤ DOCUMENT_LIMIT) (sym is.0) short, subst (TakesLine a c) (sym is.0) (line_ends a b c prefix plain is.1 taken end))
last_is a b c prefix line.TooLong short plain taken end is = absurd is
last_is a b c prefix line.End short plain taken end is = (keeps_none a b c (subst (Consumes a b) is taken) end.0, end.1)
last_is a b c prefix line.Failed short plain taken end is = absurd is
last_is a b c prefix line.OutOfMemory short plain taken end is = absurd is

full_some : (prefix : List ℕ) → length prefix ≡ DOCUMENT_LIMIT → prefix ≢ []
full_some [] full e = absurd (omega (arith, full))
full_some (x ∷ xs) full e = absurd cc

-- what comes behind the bytes of a line that is as long as may be
pub behind : (a b c : Option (List ℕ)) (prefix : List ℕ) (r : Line) → length prefix ≡ DOCUMENT_LIMIT → is_plain prefix ≡ true → Consumes a b prefix → IsEnd b c prefix r → IsNext a c r
behind a b c prefix (line.Text v) full plain taken is =
    (subst (λ xs. length xs ≤ DOCUMENT_LIMIT) (sym is.0) (omega (arith, full)), subst (TakesLine a c) (sym is.0) (by is.1))
  where
    by : Consumes b c (10 ∷ []) ⊎ (Keeps b c × IsAtEnd c) → TakesLine a c prefix
    by (inl h) = newline_ends a b c prefix plain taken h
    by (inr h) = line_ends a b c prefix plain (λ e. full_some prefix full e) taken h
behind a b c prefix line.TooLong full plain taken is =
    let some = some_in is.0 is.1 in
    (prefix ++ is.0, simp length-append (omega (arith, full, some)), line_more a b c prefix is.0 plain (λ e. full_some prefix full e) taken is.2)
behind a b c prefix line.End full plain taken is = absurd is
behind a b c prefix line.Failed full plain taken is = tt
behind a b c prefix line.OutOfMemory full plain taken is = tt

-- a push that succeeded
pub pushed : {X E : Type 0} (r : Result X E) (xs ys : List ℕ) (b : ℕ) → false ≡ is_err r → ys ≡ (if is_ok r then xs ++ (b ∷ []) else xs) → ys ≡ xs ++ (b ∷ [])
pushed (Ok x) xs ys b went grown = grown
pushed (Err e) xs ys b went grown = absurd cc
