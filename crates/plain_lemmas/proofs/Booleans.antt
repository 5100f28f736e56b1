-- What follows of booleans by their cases alone.
use Rattle.std.proofs.Common.{◌≡◌, Bool, true, false, ◌&&◌, ◌||◌, not, cond, ◌⊎◌, inl, inr, refl, sym, ap, ◌∙◌}

pub or_false : (a : Bool) → (a || false) ≡ a
or_false true = refl
or_false false = refl

pub or_true : (a : Bool) → (a || true) ≡ true
or_true true = refl
or_true false = refl

pub and_false : (a : Bool) → (a && false) ≡ false
and_false true = refl
and_false false = refl

pub or_comm : (a b : Bool) → (a || b) ≡ (b || a)
or_comm true true = refl
or_comm true false = refl
or_comm false true = refl
or_comm false false = refl

pub or_assoc : (a b c : Bool) → ((a || b) || c) ≡ (a || (b || c))
or_assoc true b c = refl
or_assoc false b c = refl

pub or_assoc_left : (a b c : Bool) → (a || (b || c)) ≡ ((a || b) || c)
or_assoc_left true b c = refl
or_assoc_left false b c = refl

pub or_exchange : (a b c d : Bool) → ((a || b) || (c || d)) ≡ ((a || c) || (b || d))
or_exchange true b c d = refl
or_exchange false true true d = refl
or_exchange false true false d = refl
or_exchange false false c d = refl

pub or_again : (a b : Bool) → (a || b) ≡ ((a || b) || a)
or_again true b = refl
or_again false b = sym (or_false b)

pub or_of_cond : (a b c : Bool) → (cond a true b || c) ≡ (b || (a || c))
or_of_cond true true c = refl
or_of_cond true false c = refl
or_of_cond false b c = refl

pub and_exchange : (a b c : Bool) → (a && (b && c)) ≡ (b && (a && c))
and_exchange true true c = refl
and_exchange true false c = refl
and_exchange false true c = refl
and_exchange false false c = refl

pub and_over_or : (a b c : Bool) → (a && (b || c)) ≡ ((a && b) || (a && c))
and_over_or true b c = refl
and_over_or false b c = refl

-- both sides of a conjunction that holds
pub and_parts_of : (a b : Bool) → (a && b) ≡ true → (a ≡ true) × (b ≡ true)
and_parts_of true b h = (refl, h)
and_parts_of false b h = cc

pub and_false_left : (a b : Bool) → a ≡ false → (a && b) ≡ false
and_false_left a b h = ap (λ c. c && b) h

-- one side of a disjunction that holds
pub or_cases : (a b : Bool) → (a || b) ≡ true → (a ≡ true) ⊎ (b ≡ true)
or_cases true b h = inl refl
or_cases false b h = inr h

pub or_left_true : (a b : Bool) → a ≡ true → (a || b) ≡ true
or_left_true a b h = ap (λ c. c || b) h

pub or_right_true : (a b : Bool) → b ≡ true → (a || b) ≡ true
or_right_true true b h = refl
or_right_true false b h = h

pub true_of_or_false : (a : Bool) → (a || false) ≡ true → a ≡ true
true_of_or_false true h = refl
true_of_or_false false h = h

-- both sides of a disjunction that fails
pub or_false_parts : (a b : Bool) → (a || b) ≡ false → (a ≡ false) × (b ≡ false)
or_false_parts true b h = cc
or_false_parts false b h = (refl, h)

pub or_false_left : (a b : Bool) → (a || b) ≡ false → a ≡ false
or_false_left a b h = (or_false_parts a b h).0

pub or_false_right : (a b : Bool) → (a || b) ≡ false → b ≡ false
or_false_right a b h = (or_false_parts a b h).1

-- a disjunction of what is weaker on each side
pub or_weaker : (a b c d : Bool) → (a ≡ true → c ≡ true) → (b ≡ true → d ≡ true) → (a || b) ≡ true → (c || d) ≡ true
or_weaker true b c d f g h = or_left_true c d (f refl)
or_weaker false b c d f g h = or_right_true c d (g h)

pub or_weaker_right : (a b c : Bool) → (b ≡ true → c ≡ true) → (a || b) ≡ true → (a || c) ≡ true
or_weaker_right true b c f h = refl
or_weaker_right false b c f h = f h

pub false_of_not : (a : Bool) → not a ≡ true → a ≡ false
false_of_not true h = cc
false_of_not false h = refl

pub false_of_not_true : (a : Bool) → (a ≡ true → ⊥) → a ≡ false
false_of_not_true true f = absurd (f refl)
false_of_not_true false f = refl

pub false_by_weaker : (a b : Bool) → (a ≡ true → b ≡ true) → b ≡ false → a ≡ false
false_by_weaker true b f h = sym (f refl) ∙ h
false_by_weaker false b f h = refl

pub not_both : (a : Bool) → a ≡ true → a ≡ false → ⊥
not_both a h k = cc (h, k)

-- two tests that imply each other are equal
pub equal_by_both_ways : (a b : Bool) → (a ≡ true → b ≡ true) → (b ≡ true → a ≡ true) → a ≡ b
equal_by_both_ways true b f g = sym (f refl)
equal_by_both_ways false true f g = g refl
equal_by_both_ways false false f g = refl
