-- Which entries are added, step by step.
use Rattle.std.proofs.Common.{◌≡◌, ◌∙◌, ℕ, ◌+◌, ◌<◌, length, drop, slice_index_or, List, [], ◌∷◌, ◌++◌, Option, Result, Ok, Err, OnOk, arith, refl, sym, ap, subst}
use Rattle.std.proofs.lemmas.List.{append_assoc, append-nil}
use Rattle.wf_ast.specs.declared.parsed.Link.{Link}
use Rattle.wf_ast.specs.declared.typed_code.ExprNode.{ExprNode}
use Rattle.wf_ast.specs.declared.types.Ty.{Ty}
use Rattle.wf_ast.specs.declared.typed_nodes.TypedNodes.{TypedNodes}
use Rattle.wf_named.specs.NamedTree.{NamedExprTree}
use Rattle.wf_named.specs.NamedTrees.{expr_at, links_at}
use Rattle.wf_types_rules.specs.declared.settings.Setting.{Setting}
use Rattle.wf_types_rules.specs.Meanings.{place_of}
use Rattle.wf_types_rules.specs.ExprTypes.{meaning}
use Rattle.wf_types_exprs.proofs.ListLemmas.{drop-one}
use Rattle.wf_typed_tree.specs.ElaboratedExprs.{type_meant}
use Rattle.wf_typed_tree.specs.Entries.{Entry, entries_in, entries, entry_of, part_entries, link_entries, expr_entries}
use Rattle.wf_typed_exprs.specs.declared.columns.Columns.{Columns}
use Rattle.wf_typed_exprs.specs.declared.elaborated.MadeNode.{MadeNode}
use Rattle.wf_typed_exprs.specs.declared.typed_exprs.TypedExpr.{TypedExpr}
use Rattle.wf_typed_exprs.specs.Growth.{with_columns, IsPushed, IsBuilt, AddsEntries, entry_made}
use Rattle.wf_typed_exprs.specs.Nodes.{number_meant, MakesExpr}

pub adds_nothing : (p : TypedNodes) → AddsEntries p p []
adds_nothing p = record { is = sym (append-nil (entries p)) }

pub adds_then : (p q r : TypedNodes) (xs ys : List Entry) → AddsEntries p q xs → AddsEntries q r ys → AddsEntries p r (xs ++ ys)
adds_then p q r xs ys g h = record { is = h.is ∙ ap (λ l. l ++ ys) g.is ∙ append_assoc (entries p) xs ys }

-- The last of several.
pub ok_adds : {X E : Type 0} (p q r : TypedNodes) (xs ys : List Entry) (result : Result X E) → AddsEntries p q xs → OnOk result (AddsEntries q r ys) → OnOk result (AddsEntries p r (xs ++ ys))
ok_adds p q r xs ys (Ok x) g h = adds_then p q r xs ys g h
ok_adds p q r xs ys (Err e) g h = tt

-- An expression whose parts are added.
pub made_adds : {X E : Type 0} (s : Setting) (t : NamedExprTree) (p q r : TypedNodes) (n : MadeNode) (result : Result X E) → AddsEntries p q (part_entries s t) → MakesExpr s t q n
    → OnOk result (AddsEntries q r (record { at = n.node.at; ty = type_meant n.of; constant = number_meant n.of } ∷ [])) → OnOk result (AddsEntries p r (expr_entries s t))
made_adds s t p q r n result g made h =
    let one : record { at = n.node.at; ty = type_meant n.of; constant = number_meant n.of } ≡ entry_of (place_of t) (meaning s t) =
    ap (λ at. entry_of at n.of) made.placed ∙ ap (entry_of (place_of t)) made.means in
    let A : Entry → Type 0 = λ x. OnOk result (AddsEntries q r (x ∷ [])) in
    ok_adds p q r (part_entries s t) (entry_of (place_of t) (meaning s t) ∷ []) result g (subst A one h)

-- One expression that is pushed.
entries_more : (ns : List ExprNode) (tys : List Ty) (ks : List (Option ℕ)) (n : ExprNode) (ty : Ty) (k : Option ℕ) → length tys ≡ length ns → length ks ≡ length ns
    → entries_in (ns ++ n ∷ []) (tys ++ ty ∷ []) (ks ++ k ∷ []) ≡ entries_in ns tys ks ++ record { at = n.at; ty = ty; constant = k } ∷ []
entries_more [] [] [] n ty k g h = refl
entries_more (m ∷ ns) (u ∷ tys) (c ∷ ks) n ty k g h = ap (λ l. record { at = m.at; ty = u; constant = c } ∷ l) (entries_more ns tys ks n ty k (omega (arith, g)) (omega (arith, h)))
entries_more [] (u ∷ tys) ks n ty k g h = absurd (grind (arith, g))
entries_more [] [] (c ∷ ks) n ty k g h = absurd (grind (arith, h))
entries_more (m ∷ ns) [] ks n ty k g h = absurd (grind (arith, g))
entries_more (m ∷ ns) (u ∷ tys) [] n ty k g h = absurd (grind (arith, h))

pub pushed_adds : (rest : TypedNodes) (old new : Columns) (x : TypedExpr) → IsBuilt (with_columns rest old) → IsPushed old new x → AddsEntries (with_columns rest old) (with_columns rest new) (entry_made x ∷ [])
unfolding entries
pushed_adds rest old new x built p =
    let more = entries_more old.exprs.items old.types.items old.constants.items x.node x.ty x.constant built.typed built.counted in
    record { is = rw (p.exprs, p.types, p.constants) more }

-- The operands of a chain, one by one: what is left to add, from here, comes to all.
abbrev pub EntriesLeft : Setting → List NamedExprTree → (ls left : List Link) → (old nodes : TypedNodes) → Type 0
EntriesLeft s ts ls left old nodes = (after : TypedNodes) → AddsEntries nodes after (link_entries s (links_at ts left)) → AddsEntries old after (link_entries s (links_at ts ls))

pub entries_next : (s : Setting) (ts : List NamedExprTree) (ls : List Link) (i : ℕ) (d : Link) (old p q : TypedNodes) → i < length ls → EntriesLeft s ts ls (drop i ls) old p
    → AddsEntries p q (expr_entries s (expr_at ts (slice_index_or ls i d).operand)) → EntriesLeft s ts ls (drop (i + 1) ls) old q
entries_next s ts ls i d old p q h left one after rest =
    let l = slice_index_or ls i d in
    let more = adds_then p q after (expr_entries s (expr_at ts l.operand)) (link_entries s (links_at ts (drop (i + 1) ls))) one rest in
    left after (subst (λ xs. AddsEntries p after (link_entries s (links_at ts xs))) (sym (drop-one ls i d h)) more)
