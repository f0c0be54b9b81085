-- Names in pairs, and what they stand for in ordered maps.
use Rattle.std.specs.Prelude.{ℕ, Bool, ◌&&◌, Option, nat_eq}
use Rattle.std.specs.declared.cmp.Ordering.{Ordering}
use Rattle.std.specs.Ordering.{nat_cmp, ordering_then}
use Rattle.std.specs.BTreeMap.{BTreeMap, get}

-- Names in pairs, as that of a struct with that of a field.
abbrev pub Pair : Type 0
Pair = ℕ × ℕ

abbrev pub same_pair : Pair → Pair → Bool
same_pair a b = nat_eq a.0 b.0 && nat_eq a.1 b.1

abbrev pub pair_cmp : Pair → Pair → Ordering
pair_cmp a b = ordering_then (nat_cmp a.0 b.0) (nat_cmp a.1 b.1)

-- What a pair stands for.
abbrev pub pair_at : {X : Type 0} → BTreeMap Pair X → Pair → Option X
pair_at table = get pair_cmp table
