-- How propositions and what their atoms ask grow.
use Rattle.std.proofs.Common.{◌≡◌, ◌≤◌, ◌<◌, ℕ, Bool, true, false, not, ◌&&◌, ◌||◌, List, ◌++◌, ◌∷◌, [], length, refl, sym, ap, subst, ◌∙◌, arith, if◌then◌else◌}
use Rattle.propositions.specs.Circuits.{holds, Keeps, Adds}
use Rattle.propositions.specs.TwoSided.{AddsTwo, AreWithin}
use Rattle.propositions.specs.declared.circuit.Gate.{Gate}
use Rattle.propositions.specs.declared.two_sided.TwoSided.{TwoSided}
use Rattle.condition_truth.specs.Outlines.{Sides, sides, if_sides, and_sides, or_sides, not_sides}
use Rattle.condition_compare.specs.Worlds.{World, Matches, KeepsAsked}
use Rattle.condition_compare.specs.Decisions.{allows, permits_after, forbids_after}
use Rattle.condition_compare.specs.Outlines.{State, state, Grows, Says, SaysSides, AddsOne, AddsSides, AddsCondition}
use Rattle.condition_compare.specs.declared.condition.Condition.{Condition}
use Rattle.condition_compare.specs.declared.asked.Asked.{Asked}

pub keeps_same : (gs : List Gate) → Keeps gs gs
keeps_same gs = record { longer = omega arith; same = λ v n lt. refl }

pub keeps_both : {a b c : List Gate} → Keeps a b → Keeps b c → Keeps a c
keeps_both h k = record { longer = omega (arith, h.longer, k.longer); same = λ v n lt. k.same v n (omega (arith, lt, h.longer)) ∙ h.same v n lt }

pub asks_same : (xs : List Asked) → KeepsAsked xs xs
asks_same xs = record { before = λ w v m. m }

pub asks_both : {a b c : List Asked} → KeepsAsked a b → KeepsAsked b c → KeepsAsked a c
asks_both h k = record { before = λ w v m. h.before w v (k.before w v m) }

pub grows_both : {a b c : State} → Grows a b → Grows b c → Grows a c
grows_both h k = record { gates = keeps_both h.gates k.gates; asked = asks_both h.asked k.asked }

-- what a proposition says, it says later
pub says_later : {a b : State} {f : World → Bool} {n : ℕ} → Grows a b → Says a f n → Says b f n
says_later {n = n} h s = record {
  within = omega (arith, s.within, h.gates.longer);
  says = λ w v m. h.gates.same v n s.within ∙ s.says w v (h.asked.before w v m);
}

pub sides_later : {a b : State} {f : World → Sides} {x : TwoSided} → Grows a b → SaysSides a f x → SaysSides b f x
sides_later {x = x} h s = record {
  within = record { yes = omega (arith, s.within.yes, h.gates.longer); no = omega (arith, s.within.no, h.gates.longer) };
  yes = λ w v m. h.gates.same v x.yes s.within.yes ∙ s.yes w v (h.asked.before w v m);
  no = λ w v m. h.gates.same v x.no s.within.no ∙ s.no w v (h.asked.before w v m);
}

module _ (gs hs : List Gate) (xs : List Asked) where
  -- one proposition more, of atoms that are there
  pub one_more : (t : (ℕ → Bool) → Bool) (f : World → Bool) (n : ℕ) → Adds gs hs t n → ((w : World) (v : ℕ → Bool) → Matches w xs v → t v ≡ f w) → AddsOne (state gs xs) (state hs xs) f n
  one_more t f n a says = record {
    grows = record { gates = a.keeps; asked = asks_same xs };
    one = record { within = a.within; says = λ w v m. a.says v ∙ says w v m };
  }

  pub two_more : (t u : (ℕ → Bool) → Bool) (f : World → Sides) (x : TwoSided) → AddsTwo gs hs t u x →
      ((w : World) (v : ℕ → Bool) → Matches w xs v → t v ≡ (f w).yes) → ((w : World) (v : ℕ → Bool) → Matches w xs v → u v ≡ (f w).no) → AddsSides (state gs xs) (state hs xs) f x
  two_more t u f x a first second = record {
    grows = record { gates = a.keeps; asked = asks_same xs };
    sides = record { within = a.within; yes = λ w v m. a.yes v ∙ first w v m; no = λ w v m. a.no v ∙ second w v m };
  }

  pub and_more : (f g : World → Sides) (x y n : TwoSided) → SaysSides (state gs xs) f x → SaysSides (state gs xs) g y →
      AddsTwo gs hs (λ v. holds v gs x.yes && holds v gs y.yes) (λ v. holds v gs x.no || (holds v gs x.yes && holds v gs y.no)) n →
      AddsSides (state gs xs) (state hs xs) (λ w. and_sides (f w) (g w)) n
  and_more f g x y n p q a = two_more _ _ (λ w. and_sides (f w) (g w)) n a
      (λ w v m i. p.yes w v m i && q.yes w v m i) (λ w v m i. p.no w v m i || (p.yes w v m i && q.no w v m i))

  pub or_more : (f g : World → Sides) (x y n : TwoSided) → SaysSides (state gs xs) f x → SaysSides (state gs xs) g y →
      AddsTwo gs hs (λ v. holds v gs x.yes || (holds v gs x.no && holds v gs y.yes)) (λ v. holds v gs x.no && holds v gs y.no) n →
      AddsSides (state gs xs) (state hs xs) (λ w. or_sides (f w) (g w)) n
  or_more f g x y n p q a = two_more _ _ (λ w. or_sides (f w) (g w)) n a
      (λ w v m i. p.yes w v m i || (p.no w v m i && q.yes w v m i)) (λ w v m i. p.no w v m i && q.no w v m i)

  pub if_more : (f g h : World → Sides) (x y z n : TwoSided) → SaysSides (state gs xs) f x → SaysSides (state gs xs) g y → SaysSides (state gs xs) h z →
      AddsTwo gs hs (λ v. (holds v gs x.yes && holds v gs y.yes) || (holds v gs x.no && holds v gs z.yes)) (λ v. (holds v gs x.yes && holds v gs y.no) || (holds v gs x.no && holds v gs z.no)) n →
      AddsSides (state gs xs) (state hs xs) (λ w. if_sides (f w) (g w) (h w)) n
  if_more f g h x y z n p q r a = two_more _ _ (λ w. if_sides (f w) (g w) (h w)) n a
      (λ w v m i. (p.yes w v m i && q.yes w v m i) || (p.no w v m i && r.yes w v m i)) (λ w v m i. (p.yes w v m i && q.no w v m i) || (p.no w v m i && r.no w v m i))

-- the decision by the conditions so far, and by those that are left
pub record IsGoingOn (first now : State) (permits forbids : ℕ) (left all : List Condition) : Type 0 where
  pub grows : Grows first now
  pub permits_within : permits < length now.gates
  pub forbids_within : forbids < length now.gates
  pub permits_left : (w : World) (v : ℕ → Bool) → Matches w now.asked v → permits_after w (holds v now.gates permits) left ≡ permits_after w w.permitted all
  pub forbids_left : (w : World) (v : ℕ → Bool) → Matches w now.asked v → forbids_after w (holds v now.gates forbids) left ≡ forbids_after w w.forbidden all

pub begun : (a b c : State) (permits forbids : ℕ) (left all : List Condition) → left ≡ all → AddsOne a b (λ w. w.permitted) permits → AddsOne b c (λ w. w.forbidden) forbids → IsGoingOn a c permits forbids left all
begun a b c permits forbids left all is p q = record {
  grows = grows_both p.grows q.grows;
  permits_within = omega (arith, p.one.within, q.grows.gates.longer);
  forbids_within = q.one.within;
  permits_left = λ w v m i. permits_after w ((says_later q.grows p.one).says w v m i) (is i);
  forbids_left = λ w v m i. forbids_after w (q.one.says w v m i) (is i);
}

pub one_condition : (first now next : State) (permits forbids : ℕ) (left rest all : List Condition) (c : Condition) (n : ℕ × ℕ) → left ≡ c ∷ rest → IsGoingOn first now permits forbids left all →
    AddsCondition now next permits forbids c n → IsGoingOn first next n.0 n.1 rest all
one_condition first now next permits forbids left rest all c n is on a = record {
  grows = grows_both on.grows a.grows;
  permits_within = a.permits_within;
  forbids_within = a.forbids_within;
  permits_left = λ w v m. ap (λ b. permits_after w b rest) (a.permits_says w v m) ∙ ap (permits_after w (holds v now.gates permits)) (sym is) ∙ on.permits_left w v (a.grows.asked.before w v m);
  forbids_left = λ w v m. ap (λ b. forbids_after w b rest) (a.forbids_says w v m) ∙ ap (forbids_after w (holds v now.gates forbids)) (sym is) ∙ on.forbids_left w v (a.grows.asked.before w v m);
}

pub decided : (first : State) (gs hs ks : List Gate) (xs : List Asked) (permits forbids none n : ℕ) (left all : List Condition) → left ≡ [] → IsGoingOn first (state gs xs) permits forbids left all →
    Adds gs hs (λ v. not (holds v gs forbids)) none → Adds hs ks (λ v. holds v hs permits && holds v hs none) n → AddsOne first (state ks xs) (λ w. allows w all) n
decided first gs hs ks xs permits forbids none n left all empty on p q = record {
  grows = record { gates = keeps_both on.grows.gates (keeps_both p.keeps q.keeps); asked = on.grows.asked };
  one = record {
    within = q.within;
    says = λ w v m. q.says v
        ∙ (λ i. (p.keeps.same v permits on.permits_within ∙ ap (permits_after w (holds v gs permits)) (sym empty) ∙ on.permits_left w v m) i
        && (p.says v ∙ ap not (ap (forbids_after w (holds v gs forbids)) (sym empty) ∙ on.forbids_left w v m)) i);
  };
}

-- what was added at one time, and more later
pub sides_after : {a b c : State} {f : World → Sides} {x : TwoSided} → Grows a b → AddsSides b c f x → AddsSides a c f x
sides_after h s = record { grows = grows_both h s.grows; sides = s.sides }

pub one_after : {a b c : State} {f : World → Bool} {n : ℕ} → Grows a b → AddsOne b c f n → AddsOne a c f n
one_after h s = record { grows = grows_both h s.grows; one = s.one }

-- the two turned round
pub turned : {a b : State} {f : World → Sides} {x : TwoSided} → AddsSides a b f x → AddsSides a b (λ w. not_sides (f w)) (record { yes = x.no; no = x.yes })
turned s = record {
  grows = s.grows;
  sides = record { within = record { yes = s.sides.within.no; no = s.sides.within.yes }; yes = s.sides.no; no = s.sides.yes };
}
