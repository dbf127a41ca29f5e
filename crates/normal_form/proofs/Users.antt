-- Block 3 with item 113 in capitals: equal exactly where two blocks 3 are equal but for the case of 113.
use Rattle.std.proofs.Common.{◌≡◌, ℕ, List, [], ◌∷◌, map, Some, None, Option, refl, ap, arith}
use Rattle.std.specs.Option.{option_map}
use Rattle.std.proofs.lemmas.Bool.Decides.{nat_tests}
use Rattle.layout.specs.Render.{User, capital_of, in_capitals}
use Rattle.normal_form.specs.Same.{SameUsers}

pub same_capitals : (u v : Option User) → SameUsers u v → option_map in_capitals u ≡ option_map in_capitals v
same_capitals None None h = refl
same_capitals None (Some v) h = absurd h
same_capitals (Some u) None h = absurd h
same_capitals (Some u) (Some v) h = λ i. Some (record { reference = h.reference i; service = h.service i; priority = h.priority i; tracking = h.tracking i })

pub capitals_same : (u v : Option User) → option_map in_capitals u ≡ option_map in_capitals v → SameUsers u v
capitals_same None None e = tt
capitals_same None (Some v) e = absurd (grind arith)
capitals_same (Some u) None e = absurd (grind arith)
capitals_same (Some u) (Some v) e =
    let same : in_capitals u ≡ in_capitals v = cc in
    record { reference = ap (λ w. w.reference) same; service = ap (λ w. w.service) same; priority = ap (λ w. w.priority) same; tracking = ap (λ w. w.tracking) same }

-- capitals stay as they are
capital_twice : (b : ℕ) → capital_of (capital_of b) ≡ capital_of b
capital_twice b = grind (arith, nat_tests)

capitals_twice : (bs : List ℕ) → map capital_of (map capital_of bs) ≡ map capital_of bs
capitals_twice [] = refl
capitals_twice (b ∷ bs) = λ i. capital_twice b i ∷ capitals_twice bs i

value_twice : (v : Option (List ℕ)) → option_map (map capital_of) (option_map (map capital_of) v) ≡ option_map (map capital_of) v
value_twice None = refl
value_twice (Some bs) = ap Some (capitals_twice bs)

pub in_capitals_twice : (u : Option User) → option_map in_capitals (option_map in_capitals u) ≡ option_map in_capitals u
in_capitals_twice None = refl
in_capitals_twice (Some u) = λ i. Some (record { reference = u.reference; service = u.service; priority = value_twice u.priority i; tracking = u.tracking })
