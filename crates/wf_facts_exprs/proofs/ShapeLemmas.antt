-- The shapes of sides, from the nodes that they name.
use Rattle.std.proofs.Common.{◌≡◌, ℕ, ◌<◌, Bool, true, false, ◌&&◌, List, [], ◌∷◌, length, map, Option, Some, None, nat_lt, refl, sym, ap, subst, arith}
use Rattle.std.specs.Prelude.{slice_index_or}
use Rattle.std.specs.List.{list_all}
use Rattle.std.proofs.lemmas.Bool.Decides.{nat_tests}
use Rattle.wf_text.specs.declared.place.Place.{Place}
use Rattle.wf_base.specs.declared.base_methods.BaseSig.{BaseSig}
use Rattle.wf_base.specs.declared.base_methods.BaseSig.TheVariants as sigs
use Rattle.wf_ast.specs.declared.numbers.ExprId.{ExprId}
use Rattle.wf_ast.specs.declared.operators.Op.{Op}
use Rattle.wf_ast.specs.declared.operators.Op.TheVariants as ops
use Rattle.wf_ast.specs.declared.types.Ty.{Ty}
use Rattle.wf_ast.specs.declared.types.Ty.TheVariants as types
use Rattle.wf_ast.specs.declared.typed_code.Expr.{Expr}
use Rattle.wf_ast.specs.declared.typed_code.Expr.TheVariants as exprs
use Rattle.wf_ast.specs.declared.typed_nodes.TypedNodes.{TypedNodes}
use Rattle.wf_ast.specs.TypedTree.{Arith, plus, NumTree, number, link, length_of, asked, reader_length, writer_length, SliceTree, ValueTree, state, elements, io, local, field, arg, equal, differs, Order}
use Rattle.wf_ast.specs.TypedTrees.{OperatorKind, arithmetic, ordering, joining, operator_kind, no_place, num_in, slice_in, io_in, named, num_chain, chain_of, comparison, answer_of, made, tree_of, type_of_node, constant_of_node, place_of_node, signs_of_node, num_type}
use Rattle.wf_ast.specs.TypedInvariant.{is_expr, is_numeric, is_list, is_tree_of, chain_fits, kind_fits}
use Rattle.wf_ast.specs.Same.{same_num}
use Rattle.wf_ast.specs.WellTyped.{is_constant}
use Rattle.wf_ast.specs.NodeKinds.{is_number_at}
use Rattle.wf_ast.proofs.SameLaws.{Lent, tree_at, kinds_at}
use Rattle.wf_ast.proofs.TreeKinds.{made_or_number_kind}
use Rattle.wf_facts_exprs.specs.Claims.{single, sum, sum_of, tree_of_side, length_in}
use Rattle.wf_facts_exprs.specs.RangeOf.{number_of_side}
use Rattle.wf_facts_exprs.specs.Shapes.{Alike, is_plain, is_sum_of_two}
use Rattle.wf_facts_exprs.proofs.PassLemmas.{both_of, lt_from}

-- ---- trees that are the same as the same trees

pub alike_self : (t : NumTree) → Alike t t
alike_self t = record { left = λ x. refl; right = λ x. refl }

length-left : (p q : Place) (cells : SliceTree) (x : NumTree) → same_num (length_of p cells) x ≡ same_num (length_of q cells) x
length-left p q cells (length_of at cells') = refl
length-left p q cells x = refl

length-right : (p q : Place) (cells : SliceTree) (x : NumTree) → same_num x (length_of p cells) ≡ same_num x (length_of q cells)
length-right p q cells (length_of at cells') = refl
length-right p q cells x = refl

pub length_alike : (p q : Place) (cells : SliceTree) → Alike (length_of p cells) (length_of q cells)
length_alike p q cells = record { left = length-left p q cells; right = length-right p q cells }

asked-left : (p q : Place) (k : _) (a : ℕ) (x : NumTree) → same_num (asked p k a) x ≡ same_num (asked q k a) x
asked-left p q k a (asked at k' a') = refl
asked-left p q k a x = refl

asked-right : (p q : Place) (k : _) (a : ℕ) (x : NumTree) → same_num x (asked p k a) ≡ same_num x (asked q k a)
asked-right p q k a (asked at k' a') = refl
asked-right p q k a x = refl

pub asked_alike : (p q : Place) (k : _) (a : ℕ) → Alike (asked p k a) (asked q k a)
asked_alike p q k a = record { left = asked-left p q k a; right = asked-right p q k a }

plus-left : (p q p' q' : Place) (m n : ℕ) (a b x : NumTree) → same_num (link p q plus m false a b) x ≡ same_num (link p' q' plus n false a b) x
plus-left p q p' q' m n a b (link at sign op bits joined l r) = refl
plus-left p q p' q' m n a b x = refl

plus-right : (p q p' q' : Place) (m n : ℕ) (a b x : NumTree) → same_num x (link p q plus m false a b) ≡ same_num x (link p' q' plus n false a b)
plus-right p q p' q' m n a b (link at sign plus bits joined l r) = refl
plus-right p q p' q' m n a b (link at sign op bits joined l r) = refl
plus-right p q p' q' m n a b x = refl

pub plus_alike : (p q p' q' : Place) (m n : ℕ) (a b : NumTree) → Alike (link p q plus m false a b) (link p' q' plus n false a b)
plus_alike p q p' q' m n a b = record { left = plus-left p q p' q' m n a b; right = plus-right p q p' q' m n a b }

-- ---- what is no number

chain-varies : (at : Place) (op : Arith) (bits : ℕ) (joined : Bool) (so_far : NumTree) (t : ValueTree) (ts : List ValueTree) (signs : List Place) → is_constant (num_chain at op bits joined so_far (t ∷ ts) signs) ≡ false
chain-varies at op bits joined so_far t [] [] = refl
chain-varies at op bits joined so_far t [] (s ∷ ss) = refl
chain-varies at op bits joined so_far t (u ∷ us) [] = chain-varies at op bits true (link at at op bits joined so_far (num_in t)) u us []
chain-varies at op bits joined so_far t (u ∷ us) (s ∷ ss) = chain-varies at op bits true (link at s op bits joined so_far (num_in t)) u us ss

named-varies : (at : Place) (ty : Ty) (p : _) → is_constant (num_in (named at ty p)) ≡ false
named-varies at (types.Num width lo hi) p = refl
named-varies at types.Flag p = refl
named-varies at types.Status p = refl
named-varies at (types.Slice width) p = refl
named-varies at (types.Array width lo hi n) p = refl
named-varies at types.Reader (arg n) = refl
named-varies at types.Reader p = refl
named-varies at types.Writer (arg n) = refl
named-varies at types.Writer p = refl
named-varies at (types.Part s) p = refl

comparison-varies : (at sign : Place) (op : Order) (a b : ValueTree) → is_constant (num_in (comparison at sign op a b)) ≡ false
comparison-varies at sign equal (state a) b = refl
comparison-varies at sign differs (state a) b = refl
comparison-varies at sign op a b = refl

answer-varies : (at : Place) (sig : BaseSig) (t : ValueTree) → is_constant (num_in (answer_of at sig t)) ≡ false
answer-varies at sigs.ReaderLength t = refl
answer-varies at sig t = refl

sorted-varies : (nodes : TypedNodes) (look : ExprId → ValueTree) (at : Place) (signs : List Place) (ty : Ty) (sort : OperatorKind) (es : List ExprId) → chain_fits nodes sort es ty ≡ true → is_constant (num_in (chain_of at signs ty sort (map look es))) ≡ false
sorted-varies nodes look at signs ty (arithmetic op) (e ∷ f ∷ es) h = chain-varies at op (num_type ty).bits false (num_in (look e)) (look f) (map look es) signs
sorted-varies nodes look at signs ty (joining both) (e ∷ f ∷ es) h = refl
sorted-varies nodes look at signs ty (ordering op) (e ∷ f ∷ []) h = comparison-varies at _ op (look e) (look f)
sorted-varies nodes look at signs ty sort es h = absurd (cc (h))

pub made-varies : (nodes : TypedNodes) (look : ExprId → ValueTree) (at : Place) (signs : List Place) (ty : Ty) (x : Expr) → kind_fits nodes ty x ≡ true → is_constant (num_in (made look at signs ty x)) ≡ false
made-varies nodes look at signs ty (exprs.Number v) h = absurd (cc (h))
made-varies nodes look at signs ty (exprs.Const c) h = refl
made-varies nodes look at signs ty (exprs.Status s) h = refl
made-varies nodes look at signs ty (exprs.Truth v) h = refl
made-varies nodes look at signs ty (exprs.Local n) h = named-varies at ty (local n.0)
made-varies nodes look at signs ty (exprs.Field n) h = named-varies at ty (field n.0)
made-varies nodes look at signs ty (exprs.Arg n) h = named-varies at ty (arg n.0)
made-varies nodes look at signs ty (exprs.Index base index) h = refl
made-varies nodes look at signs ty (exprs.Cut base from to) h = refl
made-varies nodes look at signs ty (exprs.Chain op parts) h = sorted-varies nodes look at signs ty (operator_kind op) parts h
made-varies nodes look at signs ty (exprs.Convert of to) h = refl
made-varies nodes look at signs ty (exprs.Not of) h = refl
made-varies nodes look at signs ty (exprs.Base on sig) h = answer-varies at sig (look on)

pub varies-apart : (t : NumTree) (p : Place) (n : ℕ) → is_constant t ≡ false → false ≡ same_num t (number p n)
varies-apart (number at m) p n h = absurd (cc (h))
varies-apart t p n h = refl

pub varies-number : (t : NumTree) → is_constant t ≡ false → number_of_side (single t) ≡ None
varies-number (number at n) h = absurd (cc (h))
varies-number t h = refl

pub sum-alike-left : (t u : NumTree) → is_constant t ≡ false → Alike (link no_place no_place plus 0 false t u) (tree_of_side (sum_of t u))
sum-alike-left (number at n) u h = absurd (cc (h))
sum-alike-left t u h = alike_self (link no_place no_place plus 0 false t u)

pub sum-alike-right : (t u : NumTree) → is_constant u ≡ false → Alike (link no_place no_place plus 0 false t u) (tree_of_side (sum_of t u))
sum-alike-right t (number at n) h = absurd (cc (h))
sum-alike-right (number at n) u h = alike_self (link no_place no_place plus 0 false (number at n) u)
sum-alike-right t u h = alike_self (link no_place no_place plus 0 false t u)

pub sum-number-left : (t u : NumTree) → is_constant t ≡ false → number_of_side (sum_of t u) ≡ None
sum-number-left (number at n) u h = absurd (cc (h))
sum-number-left t u h = refl

pub sum-number-right : (t u : NumTree) → is_constant u ≡ false → number_of_side (sum_of t u) ≡ None
sum-number-right t (number at n) h = absurd (cc (h))
sum-number-right (number at n) u h = refl
sum-number-right t u h = refl

-- ---- lengths

pub length_in-alike : (nodes : TypedNodes) (e : ExprId) (ty : Ty) (t : ValueTree) → is_list ty ≡ true → is_tree_of ty t ≡ true → Alike (length_of no_place (slice_in t)) (length_in nodes e ty t)
length_in-alike nodes e (types.Slice width) (elements t) h k = length_alike no_place (place_of_node nodes e.0) t
length_in-alike nodes e (types.Array width lo hi n) (elements t) h k = length_alike no_place (place_of_node nodes e.0) t
length_in-alike nodes e (types.Slice width) t h k = absurd (cc (k))
length_in-alike nodes e (types.Array width lo hi n) t h k = absurd (cc (k))
length_in-alike nodes e ty t h k = absurd (cc (h))

pub unread_in-alike : (nodes : TypedNodes) (e : ExprId) (t : ValueTree) → is_tree_of types.Reader t ≡ true → Alike (asked no_place reader_length (io_in t)) (length_in nodes e types.Reader t)
unread_in-alike nodes e (io at a) k = asked_alike no_place (place_of_node nodes e.0) reader_length a
unread_in-alike nodes e t k = absurd (cc (k))

pub room_in-alike : (nodes : TypedNodes) (e : ExprId) (t : ValueTree) → is_tree_of types.Writer t ≡ true → Alike (asked no_place writer_length (io_in t)) (length_in nodes e types.Writer t)
room_in-alike nodes e (io at a) k = asked_alike no_place (place_of_node nodes e.0) writer_length a
room_in-alike nodes e t k = absurd (cc (k))

-- ---- what a node's tree is

module _ (nodes : TypedNodes) (e : ExprId) (x : Expr) (it : Lent nodes e x) where
  pub kind_seen : is_tree_of (type_of_node nodes e.0) (tree_of nodes e) ≡ true
  kind_seen =
      let P : ValueTree → Type 0 = λ t. is_tree_of (type_of_node nodes e.0) t ≡ true in
      subst P (sym it.tree) (made_or_number_kind nodes (tree_of nodes) (place_of_node nodes e.0) (signs_of_node nodes e.0) (type_of_node nodes e.0) (constant_of_node nodes e.0) x it.kinds)

  pub varies_seen : constant_of_node nodes e.0 ≡ None → is_constant (num_in (tree_of nodes e)) ≡ false
  varies_seen is =
      let P : ValueTree → Type 0 = λ t. is_constant (num_in t) ≡ false in
      subst P (sym (tree_at nodes e x it None is)) (made-varies nodes (tree_of nodes) (place_of_node nodes e.0) (signs_of_node nodes e.0) (type_of_node nodes e.0) x (kinds_at nodes e x it is))

  pub number_seen : (v : Option ℕ) → constant_of_node nodes e.0 ≡ v → v ≡ number_of_side (single (num_in (tree_of nodes e)))
  number_seen (Some n) is =
      let P : ValueTree → Type 0 = λ t. Some n ≡ number_of_side (single (num_in t)) in
      subst P (sym (tree_at nodes e x it (Some n) is)) refl
  number_seen None is = sym (varies-number (num_in (tree_of nodes e)) (varies_seen is))

-- ---- chains

pub sum-chain-alike : (look : ExprId → ValueTree) (at : Place) (signs : List Place) (ty : Ty) (op : Op) (es : List ExprId) (d d' : ExprId) → is_sum_of_two op es ≡ true
    → Alike (link no_place no_place plus 0 false (num_in (look (slice_index_or es 0 d))) (num_in (look (slice_index_or es 1 d')))) (num_in (chain_of at signs ty (operator_kind op) (map look es)))
sum-chain-alike look at [] ty ops.Add (a ∷ b ∷ []) d d' h = plus_alike no_place no_place at at 0 (num_type ty).bits (num_in (look a)) (num_in (look b))
sum-chain-alike look at (s ∷ ss) ty ops.Add (a ∷ b ∷ []) d d' h = plus_alike no_place no_place at s 0 (num_type ty).bits (num_in (look a)) (num_in (look b))
sum-chain-alike look at signs ty ops.Add [] d d' h = absurd (cc (h))
sum-chain-alike look at signs ty ops.Add (a ∷ []) d d' h = absurd (cc (h))
sum-chain-alike look at signs ty ops.Add (a ∷ b ∷ c ∷ es) d d' h = absurd (cc (h))
sum-chain-alike look at signs ty op es d d' h = absurd (cc (h))

part-exists : (nodes : TypedNodes) (e p : ExprId) → e.0 < length nodes.exprs → nat_lt p.0 e.0 ≡ true → is_expr nodes p ≡ true
part-exists nodes e p h k = grind (arith, nat_tests, h, k)

pub and_true : (a b : Bool) → a ≡ true → b ≡ true → (a && b) ≡ true
and_true true b h k = k
and_true false b h k = absurd (cc (h))

pub sum-chain-fits : (nodes : TypedNodes) (e : ExprId) (ty : Ty) (op : Op) (es : List ExprId) (d d' : ExprId) → e.0 < length nodes.exprs → is_sum_of_two op es ≡ true → chain_fits nodes (operator_kind op) es ty ≡ true
    → list_all (λ p. nat_lt p.0 e.0) es ≡ true → (is_number_at nodes (slice_index_or es 0 d) && is_number_at nodes (slice_index_or es 1 d')) ≡ true
sum-chain-fits nodes e ty ops.Add (a ∷ b ∷ []) d d' h k f below =
    let p = both_of (is_numeric ty) _ f in
    let q = both_of (is_numeric (type_of_node nodes a.0)) _ p.1 in
    let r = both_of (is_numeric (type_of_node nodes b.0)) _ q.1 in
    let i = both_of (nat_lt a.0 e.0) _ below in
    let j = both_of (nat_lt b.0 e.0) _ i.1 in
    and_true _ _ (and_true _ _ (part-exists nodes e a h i.0) q.0) (and_true _ _ (part-exists nodes e b h j.0) r.0)
sum-chain-fits nodes e ty ops.Add [] d d' h k f below = absurd (cc (k))
sum-chain-fits nodes e ty ops.Add (a ∷ []) d d' h k f below = absurd (cc (k))
sum-chain-fits nodes e ty ops.Add (a ∷ b ∷ c ∷ es) d d' h k f below = absurd (cc (k))
sum-chain-fits nodes e ty op es d d' h k f below = absurd (cc (k))

joined-plain : (at : Place) (op : Arith) (bits : ℕ) (so_far : NumTree) (t : ValueTree) (ts : List ValueTree) (signs : List Place) → is_plain (num_chain at op bits true so_far (t ∷ ts) signs) ≡ true
joined-plain at plus bits so_far t [] [] = refl
joined-plain at plus bits so_far t [] (s ∷ ss) = refl
joined-plain at op bits so_far t [] [] = refl
joined-plain at op bits so_far t [] (s ∷ ss) = refl
joined-plain at op bits so_far t (u ∷ us) [] = joined-plain at op bits (link at at op bits true so_far (num_in t)) u us []
joined-plain at op bits so_far t (u ∷ us) (s ∷ ss) = joined-plain at op bits (link at s op bits true so_far (num_in t)) u us ss

comparison-plain : (at sign : Place) (op : Order) (a b : ValueTree) → is_plain (num_in (comparison at sign op a b)) ≡ true
comparison-plain at sign equal (state a) b = refl
comparison-plain at sign differs (state a) b = refl
comparison-plain at sign op a b = refl

sort-plain : (nodes : TypedNodes) (look : ExprId → ValueTree) (at : Place) (signs : List Place) (ty : Ty) (sort : OperatorKind) (es : List ExprId) → chain_fits nodes sort es ty ≡ true
    → ((op : Arith) (a b : ExprId) → sort ≡ arithmetic op → es ≡ a ∷ b ∷ [] → op ≡ plus → ⊥) → is_plain (num_in (chain_of at signs ty sort (map look es))) ≡ true
sort-plain nodes look at signs ty (arithmetic plus) (e ∷ f ∷ []) h other = absurd (other plus e f refl refl refl)
sort-plain nodes look at [] ty (arithmetic op) (e ∷ f ∷ []) h other = refl
sort-plain nodes look at (s ∷ ss) ty (arithmetic op) (e ∷ f ∷ []) h other = refl
sort-plain nodes look at [] ty (arithmetic op) (e ∷ f ∷ g ∷ es) h other = joined-plain at op (num_type ty).bits _ (look g) (map look es) []
sort-plain nodes look at (s ∷ ss) ty (arithmetic op) (e ∷ f ∷ g ∷ es) h other = joined-plain at op (num_type ty).bits _ (look g) (map look es) ss
sort-plain nodes look at signs ty (joining both) (e ∷ f ∷ es) h other = refl
sort-plain nodes look at signs ty (ordering op) (e ∷ f ∷ []) h other = comparison-plain at _ op (look e) (look f)
sort-plain nodes look at signs ty sort es h other = absurd (cc (h))

only-add : (op : Op) (es : List ExprId) → is_sum_of_two op es ≡ false → (f : Arith) (a b : ExprId) → operator_kind op ≡ arithmetic f → es ≡ a ∷ b ∷ [] → f ≡ plus → ⊥
only-add ops.Add (x ∷ y ∷ []) h f a b i j k = absurd (cc (h))
only-add ops.Add [] h f a b i j k = absurd (cc (j))
only-add ops.Add (x ∷ []) h f a b i j k = absurd (cc (j))
only-add ops.Add (x ∷ y ∷ z ∷ es) h f a b i j k = absurd (cc (j))
only-add op es h f a b i j k = absurd (cc (i))

pub chain-plain : (nodes : TypedNodes) (look : ExprId → ValueTree) (at : Place) (signs : List Place) (ty : Ty) (op : Op) (es : List ExprId) → chain_fits nodes (operator_kind op) es ty ≡ true → is_sum_of_two op es ≡ false
    → is_plain (num_in (chain_of at signs ty (operator_kind op) (map look es))) ≡ true
chain-plain nodes look at signs ty op es h k = sort-plain nodes look at signs ty (operator_kind op) es h (only-add op es k)

pub number-below : (nodes : TypedNodes) (e : ExprId) → is_number_at nodes e ≡ true → e.0 < length nodes.exprs
number-below nodes e h = let p = both_of (is_expr nodes e) _ h in lt_from e.0 (length nodes.exprs) p.0

pub length-number : (nodes : TypedNodes) (e : ExprId) (ty : Ty) (t : ValueTree) → number_of_side (single (length_in nodes e ty t)) ≡ None
length-number nodes e types.Reader (io at a) = refl
length-number nodes e types.Writer (io at a) = refl
length-number nodes e (types.Num width lo hi) (elements t) = refl
length-number nodes e types.Flag (elements t) = refl
length-number nodes e types.Status (elements t) = refl
length-number nodes e types.Reader (elements t) = refl
length-number nodes e types.Writer (elements t) = refl
length-number nodes e (types.Slice width) (elements t) = refl
length-number nodes e (types.Array width lo hi n) (elements t) = refl
length-number nodes e (types.Part s) (elements t) = refl
length-number nodes e ty t = refl

pub sum-left : (t u : NumTree) → is_constant t ≡ false → sum_of t u ≡ sum t u
sum-left (number at n) u h = absurd (cc (h))
sum-left t u h = refl

pub sum-right : (t u : NumTree) → is_constant u ≡ false → sum_of t u ≡ sum t u
sum-right t (number at n) h = absurd (cc (h))
sum-right (number at n) u h = refl
sum-right t u h = refl

pub constant_seen : (nodes : TypedNodes) (e : ExprId) (x : Expr) → Lent nodes e x → (n : ℕ) → constant_of_node nodes e.0 ≡ Some n → num_in (tree_of nodes e) ≡ number (place_of_node nodes e.0) n
constant_seen nodes e x it n is = ap num_in (tree_at nodes e x it (Some n) is)
