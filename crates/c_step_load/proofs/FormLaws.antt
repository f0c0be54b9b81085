-- A function of a text that has the unit form has parameters and locals with names of their own.
use Rattle.std.proofs.Common.{◌≡◌, ℕ, zero, suc, Bool, true, false, List, [], ◌∷◌, ◌++◌, length, map, Option, Some, None, refl, subst}
use Rattle.std.specs.Prelude.{◌&&◌, slice_get}
use Rattle.std.specs.List.{list_all}
use Rattle.wf_text.specs.Surface.{Surface}
use Rattle.c_text.specs.declared.kinds.Linkage.{Linkage}
use Rattle.c_text.specs.CTree.{TypeTree, ParamTree, LocalTree, Code, ItemTree, function_item}
use Rattle.c_meaning.specs.CTypes.{local_name, structs_of, is_known}
use Rattle.c_meaning.specs.UnitForm.{item_name, free_name, formed_function, meets_surface, formed_item, break_from, is_result, all_distinct, own_names, HasUnitForm}
use Rattle.c_step_program.proofs.Apart.{formed_here}

left : (a b : Bool) → (a && b) ≡ true → a ≡ true
left true b e = refl
left false b e = absurd (cc (e))

right : (a b : Bool) → (a && b) ≡ true → b ≡ true
right true b e = e
right false b e = absurd (cc (e))

module _ (linkage : Linkage) (type : Option TypeTree) (name : List ℕ) (params : List ParamTree) (locals : List LocalTree) (body : Code) where
  abbrev It : ItemTree
  It = function_item linkage type name params locals body

  abbrev HasOwn : Type 0
  HasOwn = all_distinct (map (λ (it : ParamTree). it.name) (params ++ map local_name locals)) ≡ true

  own_here : (p : Surface) (before : List ItemTree) (all : List (List ℕ)) → formed_item p before all It ≡ true → HasOwn
  own_here p [] all e = absurd (cc (e))
  own_here p (first ∷ others) all e =
      let content : formed_function (first ∷ others) all linkage type params locals body ≡ true = left (formed_function (first ∷ others) all linkage type params locals body) (meets_surface p It) (right (free_name (first ∷ others) It) _ e) in
      let own : own_names (params ++ map local_name locals) all ≡ true = left (own_names (params ++ map local_name locals) all) _ (right (list_all (λ (q : ParamTree). is_known (structs_of (first ∷ others)) q.kind) params) _ (right (is_result type) _ content)) in
      left (all_distinct (map (λ (it : ParamTree). it.name) (params ++ map local_name locals))) _ own

  own_from : (p : Surface) (before all items : List ItemTree) → break_from p before all items ≡ None → (i : ℕ) → slice_get items i ≡ Some It → HasOwn
  own_from p before all [] e i is = absurd (cc (is))
  own_from p before all (item ∷ items) e zero is =
      let same : item ≡ It = cc (is) in
      let k : (formed_item p before (map item_name all) item ≡ true) × (break_from p (before ++ item ∷ []) all items ≡ None) = formed_here (formed_item p before (map item_name all) item) _ (length before) e in
      own_here p before (map item_name all) (subst (λ (x : ItemTree). formed_item p before (map item_name all) x ≡ true) same k.0)
  own_from p before all (item ∷ items) e (suc i) is =
      let k : (formed_item p before (map item_name all) item ≡ true) × (break_from p (before ++ item ∷ []) all items ≡ None) = formed_here (formed_item p before (map item_name all) item) _ (length before) e in
      own_from p (before ++ item ∷ []) all items k.1 i is

  pub own_distinct : (p : Surface) (items : List ItemTree) → HasUnitForm p items → (i : ℕ) → slice_get items i ≡ Some It → all_distinct (map (λ (it : ParamTree). it.name) (params ++ map local_name locals)) ≡ true
  own_distinct p items h i is = own_from p [] items items h i is
