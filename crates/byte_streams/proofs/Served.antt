-- Lines, answered one after another.
use Rattle.std.proofs.Common.{◌≡◌, ◌≤◌, ◌<◌, ◌+◌, arith, ◌++◌, ◌&&◌, ℕ, Bool, true, false, List, [], ◌∷◌, Option, None, Some, Result, Ok, Err, append_assoc, append-nil, sym, ap, refl, subst, ◌∙◌, inl, inr, ◌⊎◌}
use Rattle.std.specs.Prelude.{◌≢◌, eqb, not, if◌then◌else◌, take, length, string_bytes, IfOk, String}
use Rattle.std.specs.declared.alloc.AllocError.{AllocError}
use Rattle.std.specs.declared.alloc.Global.{Global}
use Rattle.byte_streams.specs.declared.reading.TheConstants.{DOCUMENT_LIMIT}
use Rattle.std.specs.List.{concat}
use Rattle.std.proofs.KnownBytes.{Appends-trans}
use Rattle.std.proofs.lemmas.List.Folds.{concat-append}
use Rattle.std.specs.Io.KnownBytes.{Keeps, IsAtEnd, Appends}
use Rattle.byte_streams.specs.Steps.{RoseBy}
use Rattle.byte_streams.specs.Lines.{is_plain, TakesLine}
use Rattle.byte_streams.specs.Answering.{with_byte, lines_of, Answers, AnswersEach, Remains, AreAnswered, IsStep, IsWritten}
use Rattle.byte_streams.specs.declared.answering.Ended.{Ended}
use Rattle.byte_streams.specs.declared.answering.Ended.TheVariants as ended

-- a newline ends the first line
first_line : (line rest : List ℕ) → is_plain line ≡ true → lines_of (line ++ (10 ∷ rest)) ≡ line ∷ lines_of rest
first_line [] rest plain = refl
first_line (x ∷ xs) rest plain = by (eqb x 10) (first_line xs rest) plain
  where
    by : (t : Bool) → (is_plain xs ≡ true → lines_of (xs ++ (10 ∷ rest)) ≡ xs ∷ lines_of rest) → (not t && is_plain xs) ≡ true
        → (if t then [] ∷ lines_of (xs ++ (10 ∷ rest)) else with_byte x (lines_of (xs ++ (10 ∷ rest)))) ≡ (x ∷ xs) ∷ lines_of rest
    by true more h = absurd cc
    by false more h = ap (with_byte x) (more h)

-- and so does the end
last_line : (line : List ℕ) → is_plain line ≡ true → line ≢ [] → lines_of line ≡ line ∷ []
last_line [] plain some = absurd (some refl)
last_line (x ∷ []) plain some = by (eqb x 10) plain
  where
    by : (t : Bool) → (not t && true) ≡ true → (if t then [] ∷ [] else with_byte x []) ≡ (x ∷ []) ∷ []
    by true h = absurd cc
    by false h = refl
last_line (x ∷ y ∷ ys) plain some = by (eqb x 10) (last_line (y ∷ ys)) plain
  where
    by : (t : Bool) → (is_plain (y ∷ ys) ≡ true → (y ∷ ys) ≢ [] → lines_of (y ∷ ys) ≡ (y ∷ ys) ∷ []) → (not t && is_plain (y ∷ ys)) ≡ true
        → (if t then [] ∷ lines_of (y ∷ ys) else with_byte x (lines_of (y ∷ ys))) ≡ (x ∷ y ∷ ys) ∷ []
    by true more h = absurd cc
    by false more h = ap (with_byte x) (more h (λ e. absurd cc))

-- the line that was taken is the first one
taken_line : (left rest : Option (List ℕ)) (line bytes : List ℕ) → TakesLine left rest line → left ≡ Some bytes
    → (behind : List ℕ) × (rest ≡ Some behind) × (lines_of bytes ≡ line ∷ lines_of behind)
taken_line None rest line bytes takes is = absurd cc
taken_line (Some xs) None line bytes takes is = absurd (by takes.1)
  where
    by : ⊥ ⊎ (⊥ × IsAtEnd None × (line ≢ [])) → ⊥
    by (inl h) = h
    by (inr h) = h.0
taken_line (Some xs) (Some ys) line bytes takes is = (ys, refl, by takes.1)
  where
    same : xs ≡ bytes
    same = cc

    by : (xs ≡ (line ++ (10 ∷ [])) ++ ys) ⊎ ((xs ≡ line ++ ys) × (ys ≡ []) × (line ≢ [])) → lines_of bytes ≡ line ∷ lines_of ys
    by (inl h) = ap lines_of (sym same ∙ h ∙ append_assoc line (10 ∷ []) ys) ∙ first_line line ys takes.0
    by (inr h) = ap lines_of (sym same ∙ h.0 ∙ ap (λ r. line ++ r) h.1 ∙ append-nil line) ∙ last_line line takes.0 h.2 ∙ ap (λ r. line ∷ lines_of r) (sym h.1)

-- ---- counts

pub rose_none : (n : ℕ) → RoseBy 0 n n
rose_none n = inl (omega arith)

pub rose_more : (n k from mid to : ℕ) → RoseBy n from mid → RoseBy k mid to → RoseBy (n + k) from to
rose_more n k from mid to (inl p) (inl q) = inl (omega (arith, p, q))
rose_more n k from mid to (inr p) (inl q) = inr (omega (arith, p, q))
rose_more n k from mid to p (inr q) = inr q

-- ---- answers

module _ (P Q : Option (List ℕ) → List ℕ → Type 0) (f : (asked : Option (List ℕ)) (text : List ℕ) → P asked text → Q asked text) where
  answer_map : (line text : List ℕ) → Answers P line text → Answers Q line text
  answer_map line text h = (λ short. f (Some line) text (h.0 short), λ long. f None text (h.1 long))

  remains_map : (e : Ended) (rest : List (List ℕ)) (part : List ℕ) → Remains P e rest part → Remains Q e rest part
  remains_map ended.Done rest part h = h
  remains_map ended.ReadFault rest part h = h
  remains_map ended.OutOfMemory rest part h = h
  remains_map ended.WriteFault rest part h = (h.0, h.1, h.2, h.3, h.4, answer_map h.0 h.2 h.5, h.6)

module _ (P Q : ℕ → Option (List ℕ) → List ℕ → Type 0) (f : (n : ℕ) (asked : Option (List ℕ)) (text : List ℕ) → P n asked text → Q n asked text) where
  answers_map : (n : ℕ) (lines texts : List (List ℕ)) → AnswersEach P n lines texts → AnswersEach Q n lines texts
  answers_map n [] [] h = h
  answers_map n [] (t ∷ ts) h = absurd h
  answers_map n (l ∷ ls) [] h = absurd h
  answers_map n (l ∷ ls) (t ∷ ts) h = (h.0, h.1, h.2, answer_map (P h.0) (Q h.0) (f h.0) l t h.3, answers_map h.1 ls ts h.4)

  -- what are answers in one sense are answers in a wider one
  pub answered_map : (from to : ℕ) (left old new : Option (List ℕ)) (e : Ended) → AreAnswered P from to left old new e → AreAnswered Q from to left old new e
  answered_map from to left old new e h bytes is =
      let g = h bytes is in
      (g.0, g.1, g.2, g.3, g.4, g.5, g.6, answers_map g.4 g.0 g.2 g.7, g.8, remains_map (P g.5) (Q g.5) (f g.5) e g.1 g.3 g.9, g.10)

answers_push : (P : ℕ → Option (List ℕ) → List ℕ → Type 0) (n k : ℕ) (lines texts : List (List ℕ)) (line text : List ℕ) → AnswersEach P n lines texts → Answers (P k) line text
    → AnswersEach P (n + k) (lines ++ (line ∷ [])) (texts ++ (text ∷ []))
answers_push P n k [] [] line text h a = (k, 0, by n h, a, refl)
  where
    by : (n : ℕ) → n ≡ 0 → n + k ≡ k + 0
    by n h = omega (arith, h)
answers_push P n k [] (t ∷ ts) line text h a = absurd h
answers_push P n k (l ∷ ls) [] line text h a = absurd h
answers_push P n k (l ∷ ls) (t ∷ ts) line text h a = (h.0, h.1 + k, by h.0 h.1 h.2, h.3, answers_push P h.1 k ls ts line text h.4 a)
  where
    by : (a b : ℕ) → n ≡ a + b → n + k ≡ a + (b + k)
    by a b e = omega (arith, e)

-- the first lines were answered, and these bytes are left behind them
abbrev pub AreServed : (ℕ → Option (List ℕ) → List ℕ → Type 0) → ℕ → ℕ → Option (List ℕ) → Option (List ℕ) → Option (List ℕ) → Option (List ℕ) → Type 0
AreServed P from to left rest old new = (bytes : List ℕ) → left ≡ Some bytes →
    (prefix : List (List ℕ)) × (texts : List (List ℕ)) × (behind : List ℕ) × (n : ℕ)
    × (rest ≡ Some behind) × (lines_of bytes ≡ prefix ++ lines_of behind) × AnswersEach P n prefix texts × Appends old new (concat texts) × RoseBy n from to

-- nothing was asked yet
pub served_none : (P : ℕ → Option (List ℕ) → List ℕ → Type 0) (from : ℕ) (left old : Option (List ℕ)) → AreServed P from from left left old old
served_none P from left old bytes is = ([], [], bytes, 0, is, refl, refl, by old, rose_none from)
  where
    by : (o : Option (List ℕ)) → Appends o o []
    by None = tt
    by (Some xs) = sym (append-nil xs)

appends_more : (old mid new : Option (List ℕ)) (texts : List (List ℕ)) (text : List ℕ) → Appends old mid (concat texts) → Appends mid new text
    → Appends old new (concat (texts ++ (text ∷ [])))
appends_more old mid new texts text p q =
    subst (Appends old new) (ap (λ t. concat texts ++ t) (sym (append-nil text)) ∙ sym (concat-append texts (text ∷ []))) (Appends-trans old mid new (concat texts) text p q)

appends_none : (old new : Option (List ℕ)) (texts : List (List ℕ)) → Appends old new (concat texts) → Appends old new (concat texts ++ [])
appends_none old new texts p = subst (Appends old new) (sym (append-nil (concat texts))) p

rose_last : (n from mid to : ℕ) → RoseBy n from mid → RoseBy 0 mid to → RoseBy (n + 0) from to
rose_last n from mid to p q = rose_more n 0 from mid to p q

module _ (P Q : ℕ → Option (List ℕ) → List ℕ → Type 0) (f : (n : ℕ) (asked : Option (List ℕ)) (text : List ℕ) → P n asked text → Q n asked text)
    (from at to : ℕ) (left mid rest old held new : Option (List ℕ)) where
  -- one line more
  pub served_more : AreServed P from at left mid old held → IsStep Q at to mid rest held new (Ok tt) → AreServed Q from to left rest old new
  served_more h step bytes is =
      let g = h bytes is in
      let line = step.0 in
      let text = step.1 in
      let t = taken_line mid rest line g.2 step.3 g.4 in (
        g.0 ++ (line ∷ []),
        g.1 ++ (text ∷ []),
        t.0,
        g.3 + step.2,
        t.1,
        g.5 ∙ ap (λ ls. g.0 ++ ls) t.2 ∙ sym (append_assoc g.0 (line ∷ []) (lines_of t.0)),
        answers_push Q g.3 step.2 g.0 g.1 line text (answers_map P Q f g.3 g.0 g.1 g.6) step.4,
        appends_more old held new g.1 text g.7 step.6,
        rose_more g.3 step.2 from at to g.8 step.5,
      )

  -- no line more, and nothing written
  quiet : (e : Ended) → AreServed P from at left mid old held → held ≡ new → RoseBy 0 at to
      → ((behind : List ℕ) → mid ≡ Some behind → (r : List (List ℕ)) × (lines_of behind ≡ r) × Remains (Q 0) e r []) → AreAnswered Q from to left old new e
  quiet e h same rose remains bytes is =
      let g = h bytes is in
      let r = remains g.2 g.4 in (
        g.0,
        r.0,
        g.1,
        [],
        g.3,
        0,
        g.5 ∙ ap (λ ls. g.0 ++ ls) r.1,
        answers_map P Q f g.3 g.0 g.1 g.6,
        appends_none old new g.1 (subst (λ o. Appends old o (concat g.1)) same g.7),
        r.2,
        rose_last g.3 from at to g.8 rose,
      )

  -- how it ended
  pub served_end : (e : Ended) → AreServed P from at left mid old held → IsStep Q at to mid rest held new (Err e) → AreAnswered Q from to left old new e
  served_end ended.Done h step = quiet ended.Done h step.2 step.3 (λ behind is. ([], ap lines_of (by mid rest behind is step.0 step.1), (refl, refl)))
    where
      by : (m r : Option (List ℕ)) (behind : List ℕ) → m ≡ Some behind → Keeps m r → IsAtEnd r → behind ≡ []
      by None r behind is keeps end = absurd cc
      by (Some xs) None behind is keeps end = absurd keeps
      by (Some xs) (Some ys) behind is keeps end = let same : xs ≡ behind = cc in sym same ∙ sym keeps ∙ end
  served_end ended.ReadFault h step = quiet ended.ReadFault h step.0 step.1 (λ behind is. (lines_of behind, refl, refl))
  served_end ended.OutOfMemory h step = quiet ended.OutOfMemory h step.0 step.1 (λ behind is. (lines_of behind, refl, refl))
  served_end ended.WriteFault h step = λ bytes is.
      let g = h bytes is in
      let line = step.0 in
      let text = step.1 in
      let t = taken_line mid rest line g.2 step.4 g.4 in (
        g.0,
        line ∷ lines_of t.0,
        g.1,
        take step.3 text,
        g.3,
        step.2,
        g.5 ∙ ap (λ ls. g.0 ++ ls) t.2,
        answers_map P Q f g.3 g.0 g.1 g.6,
        Appends-trans old held new (concat g.1) (take step.3 text) g.7 step.7,
        (line, lines_of t.0, text, step.3, refl, step.5, refl),
        rose_more g.3 step.2 from at to g.8 step.6,
      )

-- no more lines are asked for
pub served_stop : (P : ℕ → Option (List ℕ) → List ℕ → Type 0) (from to : ℕ) (left rest old new : Option (List ℕ)) → AreServed P from to left rest old new → AreAnswered P from to left old new ended.ReadFault
served_stop P from to left rest old new h bytes is =
    let g = h bytes is in
    (g.0, lines_of g.2, g.1, [], g.3, 0, g.5, g.6, appends_none old new g.1 g.7, refl, rose_last g.3 from to to g.8 (rose_none to))

-- a text that was made for the line and written is a step
pub step_written : (P : ℕ → Option (List ℕ) → List ℕ → Type 0) (from to : ℕ) (left rest old new : Option (List ℕ)) (line : List ℕ) (made : Result (String Global) AllocError) (r : Result (Unit {0}) Ended) →
    TakesLine left rest line → RoseBy 0 from to → IfOk made (λ t. (n : ℕ) × Answers (P n) line (string_bytes t) × RoseBy n from to) → IsWritten old new made r →
    IsStep P from to left rest old new r
step_written P from to left rest old new line (Ok t) (Ok done) takes none h w = (line, string_bytes t, h.0, takes, h.1, h.2, w)
step_written P from to left rest old new line (Ok t) (Err e) takes none h w =
    subst (λ e. IsStep P from to left rest old new (Err e)) (sym w.1) (line, string_bytes t, h.0, w.0, takes, h.1, h.2, w.2)
step_written P from to left rest old new line (Err e) (Ok done) takes none h w = absurd w
step_written P from to left rest old new line (Err e) (Err x) takes none h w = subst (λ e. IsStep P from to left rest old new (Err e)) (sym w.0) (w.1, none)

-- an answer to a line that is not too long
pub answer_short : (P : ℕ → Option (List ℕ) → List ℕ → Type 0) (line : List ℕ) (from to : ℕ) (made : Result (String Global) AllocError) → length line ≤ DOCUMENT_LIMIT →
    IfOk made (λ t. (n : ℕ) × P n (Some line) (string_bytes t) × RoseBy n from to) → IfOk made (λ t. (n : ℕ) × Answers (P n) line (string_bytes t) × RoseBy n from to)
answer_short P line from to (Ok t) short h = (h.0, (λ s. h.1, λ long. absurd (by long)), h.2)
  where
    by : DOCUMENT_LIMIT < length line → ⊥
    by long = omega (arith, long, short)
answer_short P line from to (Err e) short h = tt
