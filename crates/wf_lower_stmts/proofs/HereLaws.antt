-- What is done for the one item at a place of a list.
use Rattle.std.proofs.Common.{◌≡◌, ◌<◌, ℕ, zero, suc, length, subst, Result, IfOk, Bool, true, false, ◌&&◌, if◌then◌else◌, List, [], ◌∷◌, drop, take, map, Some, refl, sym, ap, ◌∙◌}
use Rattle.std.specs.Prelude.{slice_get, option_map}
use Rattle.std.proofs.lemmas.Option.{same_Some}
use Rattle.wf_ast.specs.declared.declarations.Var.{Var}
use Rattle.wf_ast.specs.declared.types.Ty.{Ty}
use Rattle.wf_ast.specs.declared.typed_nodes.TypedNodes.{TypedNodes}
use Rattle.wf_ast.specs.TypedPackage.{variable_of}
use Rattle.wf_text.specs.declared.faults.NoMemory.{NoMemory}
use Rattle.c_text.specs.declared.ids.CStmtId.{CStmtId}
use Rattle.c_text.specs.CNodes.{Nodes, code_of}
use Rattle.c_text.specs.CTree.{Code}
use Rattle.wf_exprs.specs.Grown.{HasCode}
use Rattle.wf_exprs.specs.Names.{Names}
use Rattle.wf_lower_stmts.specs.declared.places.Way.{Way}
use Rattle.wf_lower_stmts.specs.declared.places.Way.TheVariants as ways
use Rattle.wf_lower_stmts.specs.BodyNodes.{one_place, places_code}
use Rattle.wf_lower_stmts.specs.Forms.{is_io}

-- The same code in other words.
pub retell_code : (nodes : Nodes) (x y : Code) (r : Result CStmtId NoMemory) → x ≡ y → IfOk r (λ it. HasCode nodes it.0 x) → IfOk r (λ it. HasCode nodes it.0 y)
retell_code nodes x y r e h = let P : Code → Type 0 = λ z. IfOk r (λ it. HasCode nodes it.0 z) in subst P e h

pub code_here : (nodes : Nodes) (code : Code) (s : ℕ) → s < length nodes.stmts → code ≡ code_of nodes s → HasCode nodes s code
code_here nodes code s h e = record { there = h; is = sym e }

-- A code for the item, or none.
choose_both : {X : Type 0} (a b c : Bool) (x y : X) → (a && b) ≡ c → (if a then (if b then x else y) else y) ≡ (if c then x else y)
choose_both true b c x y h = rw h refl
choose_both false b true x y h = absurd (cc h)
choose_both false b false x y h = refl

module _ (nodes : TypedNodes) (names : Names) (picks : ℕ → Bool) (rest : Code) (n : ℕ) where
  place_here : (way : Way) (k : ℕ) (xs : List Var) (ty : Ty) → option_map (λ x. x.ty) (slice_get xs k) ≡ Some ty
      → places_code way names picks n (take 1 (drop k (map (variable_of nodes) xs))) rest ≡ (if is_io ty then (if picks n then one_place way names n ty rest else rest) else rest)
  place_here way k [] ty h = absurd (cc h)
  place_here ways.Put zero (x ∷ xs) ty h = ap (λ t. if is_io t then (if picks n then one_place ways.Put names n t rest else rest) else rest) (same_Some x.ty ty h)
  place_here ways.Get zero (x ∷ xs) ty h = ap (λ t. if is_io t then (if picks n then one_place ways.Get names n t rest else rest) else rest) (same_Some x.ty ty h)
  place_here way (suc k) (x ∷ xs) ty h = place_here way k xs ty h

  pub place_done : (way : Way) (k : ℕ) (xs : List Var) (ty : Ty) (c : Bool) → option_map (λ x. x.ty) (slice_get xs k) ≡ Some ty → (is_io ty && picks n) ≡ c
      → places_code way names picks n (take 1 (drop k (map (variable_of nodes) xs))) rest ≡ (if c then one_place way names n ty rest else rest)
  place_done way k xs ty c h same = place_here way k xs ty h ∙ choose_both (is_io ty) (picks n) c (one_place way names n ty rest) rest same
