-- A unit stays sound while nodes are added, and what is added has the tree that its node tells.
use Rattle.std.proofs.Common.{◌≡◌, ℕ, zero, suc, ◌≤◌, List, [], ◌∷◌, ◌++◌, length, map, Option, None, Some, refl, sym, ◌∙◌, ap, subst, arith, IsTrue, inl, inr, ◌⊎◌}
use Rattle.std.specs.List.{slice_get}
use Rattle.std.proofs.lemmas.Option.{slice_get_within, slice_get-map}
use Rattle.c_text.specs.declared.nodes.CExpr.{CExpr}
use Rattle.c_text.specs.declared.nodes.CStmt.{CStmt}
use Rattle.c_text.specs.declared.nodes.CItem.{CItem}
use Rattle.c_text.specs.CNodes.{Nodes, no_nodes, made_expr, expr_of, made_code, code_of, made_item, unit_tree}
use Rattle.c_text.specs.CFits.{FitsExpr, FitsStmt, FitsItem}
use Rattle.c_text.specs.CUnit.{IsSound, Extends, SharesExpr, SharesStmt}
use Rattle.c_text.specs.CSpelling.{is_name, is_string}
use Rattle.c_text.proofs.Arena.{slice_get-seam}
use Rattle.c_text.proofs.Trees.{append_nil, expr_fits, stmt_fits, item_fits, expr_of-is, expr_of-kept, made_expr-agrees, code_of-is, code_of-kept, made_code-same}

pub slice_get-last : {X : Type 0} (xs : List X) (x : X) (i : ℕ) (y : X) → slice_get (xs ++ x ∷ []) i ≡ Some y → (slice_get xs i ≡ Some y) ⊎ ((i ≡ length xs) × (x ≡ y))
slice_get-last [] x zero y h = inr (refl, cc (h))
slice_get-last [] x (suc i) y h = absurd (cc (h))
slice_get-last (a ∷ xs) x zero y h = inl h
slice_get-last {X} (a ∷ xs) x (suc i) y h =
    elim (slice_get-last xs x i y h) [ inl e ↦ inl e | inr e ↦ inr (ap (λ n. suc n) e.0, e.1) ]

pub grown : (old : Nodes) (names strings : List (List ℕ)) (exprs : List CExpr) (stmts : List CStmt) (items : List CItem) → Extends old (record { names = old.names ++ names; strings = old.strings ++ strings; exprs = old.exprs ++ exprs; stmts = old.stmts ++ stmts; items = old.items ++ items })
grown old names strings exprs stmts items = record { more = record { names = names; strings = strings; exprs = exprs; stmts = stmts; items = items }; names = refl; strings = refl; exprs = refl; stmts = refl; items = refl }

nil : {X : Type 0} (xs : List X) → xs ≡ xs ++ []
nil xs = sym (append_nil xs)

pub with_expr : (old : Nodes) (x : CExpr) → Extends old (record old { exprs = old.exprs ++ x ∷ [] })
with_expr old x = record { more = record no_nodes { exprs = x ∷ [] }; names = nil old.names; strings = nil old.strings; exprs = refl; stmts = nil old.stmts; items = nil old.items }

pub with_stmt : (old : Nodes) (x : CStmt) → Extends old (record old { stmts = old.stmts ++ x ∷ [] })
with_stmt old x = record { more = record no_nodes { stmts = x ∷ [] }; names = nil old.names; strings = nil old.strings; exprs = nil old.exprs; stmts = refl; items = nil old.items }

pub with_item : (old : Nodes) (x : CItem) → Extends old (record old { items = old.items ++ x ∷ [] })
with_item old x = record { more = record no_nodes { items = x ∷ [] }; names = nil old.names; strings = nil old.strings; exprs = nil old.exprs; stmts = nil old.stmts; items = refl }

pub with_string : (old : Nodes) (x : List ℕ) → Extends old (record old { strings = old.strings ++ x ∷ [] })
with_string old x = record { more = record no_nodes { strings = x ∷ [] }; names = nil old.names; strings = refl; exprs = nil old.exprs; stmts = nil old.stmts; items = nil old.items }

pub with_name : (old : Nodes) (x : List ℕ) → Extends old (record old { names = old.names ++ x ∷ [] })
with_name old x = record { more = record no_nodes { names = x ∷ [] }; names = refl; strings = nil old.strings; exprs = nil old.exprs; stmts = nil old.stmts; items = nil old.items }

within_exprs : (old : Nodes) (i : ℕ) (x : CExpr) → slice_get old.exprs i ≡ Some x → i ≤ length old.exprs
within_exprs old i x is = omega (arith, slice_get_within old.exprs i x is)

within_stmts : (old : Nodes) (i : ℕ) (x : CStmt) → slice_get old.stmts i ≡ Some x → i ≤ length old.stmts
within_stmts old i x is = omega (arith, slice_get_within old.stmts i x is)

pub sound_expr : (old : Nodes) (x : CExpr) → IsSound old → FitsExpr old (length old.exprs) x → IsSound (record old { exprs = old.exprs ++ x ∷ [] })
sound_expr old x sound fits =
    let new = record old { exprs = old.exprs ++ x ∷ [] } in
    let grows = with_expr old x in
    record {
      names = sound.names;
      strings = sound.strings;
      exprs = λ i y is. elim (slice_get-last old.exprs x i y is) [ inl e ↦ expr_fits old new sound grows i (within_exprs old i y e) y (sound.exprs i y e) | inr e ↦ subst (λ (n : ℕ). FitsExpr new n y) (sym e.0) (subst (λ (z : CExpr). FitsExpr new (length old.exprs) z) e.1 (expr_fits old new sound grows (length old.exprs) (omega arith) x fits)) ];
      stmts = λ i y is. stmt_fits old new sound grows i (within_stmts old i y is) y (sound.stmts i y is);
      items = λ i y is. item_fits old new grows y (sound.items i y is);
    }

pub sound_stmt : (old : Nodes) (x : CStmt) → IsSound old → FitsStmt old (length old.stmts) x → IsSound (record old { stmts = old.stmts ++ x ∷ [] })
sound_stmt old x sound fits =
    let new = record old { stmts = old.stmts ++ x ∷ [] } in
    let grows = with_stmt old x in
    record {
      names = sound.names;
      strings = sound.strings;
      exprs = λ i y is. expr_fits old new sound grows i (within_exprs old i y is) y (sound.exprs i y is);
      stmts = λ i y is. elim (slice_get-last old.stmts x i y is) [ inl e ↦ stmt_fits old new sound grows i (within_stmts old i y e) y (sound.stmts i y e) | inr e ↦ subst (λ (n : ℕ). FitsStmt new n y) (sym e.0) (subst (λ (z : CStmt). FitsStmt new (length old.stmts) z) e.1 (stmt_fits old new sound grows (length old.stmts) (omega arith) x fits)) ];
      items = λ i y is. item_fits old new grows y (sound.items i y is);
    }

pub sound_item : (old : Nodes) (x : CItem) → IsSound old → FitsItem old x → IsSound (record old { items = old.items ++ x ∷ [] })
sound_item old x sound fits =
    let new = record old { items = old.items ++ x ∷ [] } in
    let grows = with_item old x in
    record {
      names = sound.names;
      strings = sound.strings;
      exprs = λ i y is. expr_fits old new sound grows i (within_exprs old i y is) y (sound.exprs i y is);
      stmts = λ i y is. stmt_fits old new sound grows i (within_stmts old i y is) y (sound.stmts i y is);
      items = λ i y is. elim (slice_get-last old.items x i y is) [ inl e ↦ item_fits old new grows y (sound.items i y e) | inr e ↦ subst (λ (z : CItem). FitsItem new z) e.1 (item_fits old new grows x fits) ];
    }

pub sound_string : (old : Nodes) (x : List ℕ) → IsSound old → IsTrue (is_string x) → IsSound (record old { strings = old.strings ++ x ∷ [] })
sound_string old x sound fits =
    let new = record old { strings = old.strings ++ x ∷ [] } in
    let grows = with_string old x in
    record {
      names = sound.names;
      strings = λ i y is. elim (slice_get-last old.strings x i y is) [ inl e ↦ sound.strings i y e | inr e ↦ subst (λ (z : List ℕ). IsTrue (is_string z)) e.1 fits ];
      exprs = λ i y is. expr_fits old new sound grows i (within_exprs old i y is) y (sound.exprs i y is);
      stmts = λ i y is. stmt_fits old new sound grows i (within_stmts old i y is) y (sound.stmts i y is);
      items = λ i y is. item_fits old new grows y (sound.items i y is);
    }

pub sound_name : (old : Nodes) (x : List ℕ) → IsSound old → IsTrue (is_name x) → IsSound (record old { names = old.names ++ x ∷ [] })
sound_name old x sound fits =
    let new = record old { names = old.names ++ x ∷ [] } in
    let grows = with_name old x in
    record {
      names = λ i y is. elim (slice_get-last old.names x i y is) [ inl e ↦ sound.names i y e | inr e ↦ subst (λ (z : List ℕ). IsTrue (is_name z)) e.1 fits ];
      strings = sound.strings;
      exprs = λ i y is. expr_fits old new sound grows i (within_exprs old i y is) y (sound.exprs i y is);
      stmts = λ i y is. stmt_fits old new sound grows i (within_stmts old i y is) y (sound.stmts i y is);
      items = λ i y is. item_fits old new grows y (sound.items i y is);
    }

pub added_expr : (old : Nodes) (x : CExpr) → IsSound old → FitsExpr old (length old.exprs) x → expr_of (record old { exprs = old.exprs ++ x ∷ [] }) (length old.exprs) ≡ made_expr old.names (expr_of old) x
added_expr old x sound fits =
    let new = record old { exprs = old.exprs ++ x ∷ [] } in
    let grows = with_expr old x in
    expr_of-is new (length old.exprs) x (slice_get-seam old.exprs x []) (expr_fits old new sound grows (length old.exprs) (omega arith) x fits)
    ∙ made_expr-agrees old (length old.exprs) x fits (expr_of new) (expr_of old) (λ p less. expr_of-kept old new sound grows p less)

pub added_stmt : (old : Nodes) (x : CStmt) → IsSound old → FitsStmt old (length old.stmts) x → code_of (record old { stmts = old.stmts ++ x ∷ [] }) (length old.stmts) ≡ made_code old.names (expr_of old) (code_of old) x
added_stmt old x sound fits =
    let new = record old { stmts = old.stmts ++ x ∷ [] } in
    let grows = with_stmt old x in
    code_of-is new (length old.stmts) x (slice_get-seam old.stmts x []) (stmt_fits old new sound grows (length old.stmts) (omega arith) x fits)
    ∙ (ap (λ (names : List (List ℕ)). made_code names (expr_of new) (code_of new) x) (nil old.names)
    ∙ made_code-same old [] (expr_of new) (expr_of old) (λ p less. expr_of-kept old new sound grows p less) (length old.stmts) x fits (code_of new) (code_of old) (λ p less. code_of-kept old new sound grows p less))

map-append : {A B : Type 0} (f : A → B) (xs ys : List A) → map f (xs ++ ys) ≡ map f xs ++ map f ys
map-append f [] ys = refl
map-append f (x ∷ xs) ys = ap (λ zs. f x ∷ zs) (map-append f xs ys)

made_item-kept : (old : Nodes) (items : List CItem) (x : CItem) → made_item (record old { items = items }) x ≡ made_item old x
unfolding expr_of code_of
made_item-kept old items x = refl

map_made-kept : (old : Nodes) (items : List CItem) (xs : List CItem) → map (made_item (record old { items = items })) xs ≡ map (made_item old) xs
map_made-kept old items [] = refl
map_made-kept old items (x ∷ xs) = let a = made_item-kept old items x in let b = map_made-kept old items xs in cc (a, b)

pub added_item : (old : Nodes) (x : CItem) → unit_tree (record old { items = old.items ++ x ∷ [] }) ≡ unit_tree old ++ made_item old x ∷ []
unfolding unit_tree
added_item old x = map_made-kept old (old.items ++ x ∷ []) (old.items ++ x ∷ []) ∙ map-append (made_item old) old.items (x ∷ [])

pub unit_tree-at : (nodes : Nodes) (i : ℕ) (x : CItem) → slice_get nodes.items i ≡ Some x → slice_get (unit_tree nodes) i ≡ Some (made_item nodes x)
unfolding unit_tree
unit_tree-at nodes i x is = slice_get-map (made_item nodes) nodes.items i ∙ ap (λ (o : Option CItem). elim o [ None ↦ None | Some y ↦ Some (made_item nodes y) ]) is

-- An expression that the unit has serves again.
pub shared_expr : (old : Nodes) (x : CExpr) (e : ℕ) → IsSound old → slice_get old.exprs e ≡ Some x → SharesExpr old old x e
shared_expr old x e sound stands = record {
  grown = inl refl;
  there = slice_get_within old.exprs e x stands;
  is = expr_of-is old e x stands (sound.exprs e x stands);
}

pub shared_stmt : (old : Nodes) (x : CStmt) (s : ℕ) → IsSound old → slice_get old.stmts s ≡ Some x → SharesStmt old old x s
shared_stmt old x s sound stands = record {
  grown = inl refl;
  there = slice_get_within old.stmts s x stands;
  is = code_of-is old s x stands (sound.stmts s x stands);
}
