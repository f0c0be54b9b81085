-- Slices of C, and numbers that a unit has.
use Rattle.std.proofs.Common.{◌≡◌, Bool, true, false, Result, Ok, Err, IfOk, Option, None, Some, refl, ap, ◌∙◌, subst}
use Rattle.std.specs.Prelude.{option_map}
use Rattle.wf_text.specs.declared.place.Place.{Place}
use Rattle.wf_text.specs.declared.faults.NoMemory.{NoMemory}
use Rattle.wf_ast.specs.TypedTree.{local, field, arg, SliceTree, slice, array, cut, EndTree, absent, present}
use Rattle.c_text.specs.CGrammar.{is_literal}
use Rattle.c_text.specs.CNodes.{Nodes, expr_of}
use Rattle.c_text.specs.CTree.{ExprTree}
use Rattle.wf_exprs.specs.Names.{Names}
use Rattle.wf_exprs.specs.Exprs.{Rated, Pair, rated, is_array, moved, part_pair, lowered, lowered_slice, lowered_end}
use Rattle.wf_exprs.specs.Grown.{Grows}
use Rattle.wf_exprs.specs.Making.{rated_in, pair_in, HasRated, HasPair, HasEnd}
use Rattle.wf_exprs.specs.declared.rated.Rated.{Rated as RatedNode}
use Rattle.wf_exprs.specs.declared.rated.Pair.{Pair as PairNode}

moved_no_literal : (never_null : Bool) (pointer from : ExprTree) → is_literal (moved never_null pointer from) ≡ false
moved_no_literal true pointer from = refl
moved_no_literal false pointer from = refl

-- The pointer of a slice is no literal.
pub pointer_no_literal : (names : Names) (t : SliceTree) → is_literal (lowered_slice names t).pointer ≡ false
pointer_no_literal names (slice at bits (local n)) = refl
pointer_no_literal names (slice at bits (field n)) = refl
pointer_no_literal names (slice at bits (arg n)) = refl
pointer_no_literal names (array at of count (local n)) = refl
pointer_no_literal names (array at of count (field n)) = refl
pointer_no_literal names (array at of count (arg n)) = refl
pointer_no_literal names (cut at cells absent to) = pointer_no_literal names cells
pointer_no_literal names (cut at cells (present e) to) = moved_no_literal (is_array cells) (lowered_slice names cells).pointer (lowered names e).code

-- What a unit has is what stands in it, and stays while it grows.
pub rated_is : (u : Nodes) (a : RatedNode) (it : Rated) → HasRated u a it → rated_in u a ≡ it
rated_is u a it h = ap (λ code. rated code a.ty) h.code.is ∙ ap (rated it.code) h.ty

pub rated_kept : (a b : Nodes) (r : RatedNode) (it : Rated) → Grows a b → HasRated a r it → HasRated b r it
rated_kept a b r it g h = record { code = record { there = g.more_exprs r.code.0 h.code.there; is = g.exprs r.code.0 h.code.there ∙ h.code.is }; ty = h.ty }

abbrev of_pair : ExprTree → Rated → Pair
of_pair p l = record { pointer = p; length = l }

same_pair : (p q : ExprTree) (l m : Rated) → p ≡ q → l ≡ m → of_pair p l ≡ of_pair q m
same_pair p q l m h k = ap (λ x. of_pair x l) h ∙ ap (of_pair q) k

pub pair_is : (u : Nodes) (a : PairNode) (it : Pair) → HasPair u a it → pair_in u a ≡ it
pair_is u a it h = same_pair (expr_of u a.pointer.0) it.pointer (rated_in u a.length) it.length h.pointer.is (rated_is u a.length it.length h.length)

pub pair_kept : (a b : Nodes) (p : PairNode) (it : Pair) → Grows a b → HasPair a p it → HasPair b p it
pair_kept a b p it g h = record { pointer = record { there = g.more_exprs p.pointer.0 h.pointer.there; is = g.exprs p.pointer.0 h.pointer.there ∙ h.pointer.is }; length = rated_kept a b p.length it.length g h.length }

pub end_is : (u : Nodes) (a : Option RatedNode) (it : Option Rated) → HasEnd u a it → option_map (rated_in u) a ≡ it
end_is u None None h = refl
end_is u (Some a) (Some it) h = ap Some (rated_is u a it h)
end_is u None (Some it) h = absurd h
end_is u (Some a) None h = absurd h

pub end_kept : (a b : Nodes) (r : Option RatedNode) (it : Option Rated) → Grows a b → HasEnd a r it → HasEnd b r it
end_kept a b None None g h = h
end_kept a b (Some r) (Some it) g h = rated_kept a b r it g h
end_kept a b None (Some it) g h = absurd h
end_kept a b (Some r) None g h = absurd h

pub rated_as : {u : Nodes} {a : RatedNode} (it other : Rated) → it ≡ other → HasRated u a it → HasRated u a other
rated_as {u} {a} it other same h = subst (λ (x : Rated). HasRated u a x) same h

pub pair_as : {u : Nodes} {a : PairNode} (it other : Pair) → it ≡ other → HasPair u a it → HasPair u a other
pair_as {u} {a} it other same h = subst (λ (x : Pair). HasPair u a x) same h

pub retell_rated : (u : Nodes) (it other : Rated) (r : Result RatedNode NoMemory) → it ≡ other → IfOk r (λ a. HasRated u a it) → IfOk r (λ a. HasRated u a other)
retell_rated u it other (Ok a) same h = rated_as it other same h
retell_rated u it other (Err refused) same h = h

-- A part of a slice.
pub part_is : (names : Names) (u : Nodes) (whole : PairNode) (never_null : Bool) (first last : Option RatedNode) (at : Place) (cells : SliceTree) (from to : EndTree)
    → never_null ≡ is_array cells → HasPair u whole (lowered_slice names cells) → HasEnd u first (lowered_end names from) → HasEnd u last (lowered_end names to)
    → part_pair never_null (pair_in u whole) (option_map (rated_in u) first) (option_map (rated_in u) last) ≡ lowered_slice names (cut at cells from to)
part_is names u whole never_null first last at cells from to n w f l =
    ap (λ x. part_pair x (pair_in u whole) (option_map (rated_in u) first) (option_map (rated_in u) last)) n
    ∙ ap (λ x. part_pair (is_array cells) x (option_map (rated_in u) first) (option_map (rated_in u) last)) (pair_is u whole (lowered_slice names cells) w)
    ∙ ap (λ x. part_pair (is_array cells) (lowered_slice names cells) x (option_map (rated_in u) last)) (end_is u first (lowered_end names from) f)
    ∙ ap (λ x. part_pair (is_array cells) (lowered_slice names cells) (lowered_end names from) x) (end_is u last (lowered_end names to) l)
