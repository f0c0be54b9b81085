-- The bodies of methods while statements are added: what was there keeps its numbers and what it makes.
use Rattle.std.proofs.Common.{◌≡◌, ◌∙◌, refl, sym, ap, subst, ℕ, ◌+◌, ◌<◌, ◌≤◌, Bool, true, ◌&&◌, List, [], ◌∷◌, ◌++◌, length, map, take, slice_get, get_or, Some, option_map, nat_lt, length-append, arith}
use Rattle.std.specs.Prelude.{unwrap_or}
use Rattle.std.specs.List.{list_all}
use Rattle.std.proofs.lemmas.Bool.Decides.{nat_tests}
use Rattle.std.proofs.lemmas.List.{length-map, map-append, take_more, take_all}
use Rattle.std.proofs.lemmas.Option.{slice_get-map}
use Rattle.wf_ast.specs.declared.declarations.Method.{Method}
use Rattle.wf_ast.specs.declared.numbers.ExprId.{ExprId}
use Rattle.wf_ast.specs.declared.numbers.StmtId.{StmtId}
use Rattle.wf_ast.specs.declared.typed_code.Block as typed_code
use Rattle.wf_ast.specs.declared.typed_code.Stmt.{Stmt}
use Rattle.wf_ast.specs.declared.typed_code.Stmt.TheVariants as stmts
use Rattle.wf_ast.specs.declared.typed_code.StmtNode.{StmtNode}
use Rattle.wf_ast.specs.declared.typed_nodes.TypedNodes.{TypedNodes}
use Rattle.wf_ast.specs.BaseStatuses.{base_statuses}
use Rattle.wf_ast.specs.TypedTree.{Block}
use Rattle.wf_ast.specs.TypedTrees.{block_made, onto, no_stmt, stmt_makers}
use Rattle.wf_ast.proofs.Arena.{both_true}
use Rattle.wf_named.specs.declared.declarations.NamedMethod.{NamedMethod}
use Rattle.wf_named.specs.NamedParts.{NamedParts, exprs_of, stmts_of, named_package}
use Rattle.wf_named.specs.NamedTree.{Word, NamedMethodTree, NamedPackageTree}
use Rattle.wf_named.specs.NamedTrees.{word_at, method_made}
use Rattle.wf_types_rules.specs.DeclaredTypes.{in_method}
use Rattle.wf_typed_tree.specs.ElaboratedPackage.{seen_text, count_methods}
use Rattle.wf_typed_tree.specs.ElaboratedStmts.{count_block}
use Rattle.wf_typed_tree.specs.Entries.{entries, method_entries}
use Rattle.wf_typed_exprs.specs.Growth.{AddsEntries}
use Rattle.wf_typed_stmts.specs.StmtGrowth.{jump_below, jumps_below, GrowsStmts, Adds, IsBegun, StandsForBlock}
use Rattle.wf_types.specs.Bodies.{IsBody, AreBodies, BodiesMade}
use Rattle.wf_types.specs.DeclaredNodes.{declared_method, declared_nodes, without_name_and_orders}
use Rattle.wf_types.specs.Locals.{places_of, HaveNodes, MethodsHaveNodes}
use Rattle.wf_types.proofs.EntryLemmas.{entries_more}
use Rattle.wf_types.proofs.LocalLemmas.{methods_with}

and_true : (a b : Bool) → a ≡ true → b ≡ true → (a && b) ≡ true
and_true a b h k = rw (h, k) refl

-- What lies below a number lies below a greater one.
wider : (n m k : ℕ) → m ≤ k → nat_lt n m ≡ true → nat_lt n k ≡ true
wider n m k h t = grind (arith, nat_tests)

numbers_wider : (m k : ℕ) (ids : List StmtId) → m ≤ k → list_all (λ i. nat_lt i.0 m) ids ≡ true → list_all (λ i. nat_lt i.0 k) ids ≡ true
numbers_wider m k [] h t = refl
numbers_wider m k (i ∷ ids) h t =
    let both = both_true (nat_lt i.0 m) _ t in and_true (nat_lt i.0 k) _ (wider i.0 m k h both.0) (numbers_wider m k ids h both.1)

jump_wider : (m k : ℕ) (st : Stmt) → m ≤ k → jump_below m st ≡ true → jump_below k st ≡ true
jump_wider m k (stmts.Break w) h t = wider w.0 m k h t
jump_wider m k (stmts.Continue w) h t = wider w.0 m k h t
jump_wider m k st h t = refl

jumps_wider : (m k : ℕ) (ns : List StmtNode) → m ≤ k → jumps_below m ns ≡ true → jumps_below k ns ≡ true
jumps_wider m k [] h t = refl
jumps_wider m k (n ∷ ns) h t =
    let both = both_true (jump_below m n.stmt) _ t in and_true (jump_below k n.stmt) _ (jump_wider m k n.stmt h both.0) (jumps_wider m k ns h both.1)

-- Blocks make what they made.
below : (m n : ℕ) → nat_lt m n ≡ true → m < n
below m n h = grind (arith, nat_tests, h)

module _ (p : NamedPackageTree) (old new : TypedNodes) (grows : GrowsStmts old new) where
  items_kept : (ids : List StmtId) → list_all (λ i. nat_lt i.0 (length old.stmts)) ids ≡ true → block_made (onto (stmt_makers new)) ids ≡ block_made (onto (stmt_makers old)) ids
  items_kept [] h = refl
  items_kept (s ∷ ss) h =
      let both = both_true (nat_lt s.0 (length old.stmts)) _ h in
      let same : onto (stmt_makers new) s ≡ onto (stmt_makers old) s = ap (λ o. unwrap_or o no_stmt) (sym (grows.same_makers s.0 (below s.0 (length old.stmts) both.0))) in
      ap (λ (f : Block → Block). f (block_made (onto (stmt_makers new)) ss)) same ∙ ap (onto (stmt_makers old) s) (items_kept ss both.1)

  body_kept : (n : ℕ) (m : NamedMethodTree) (b : typed_code.Block) → IsBody p old n m b → IsBody p new n m b
  body_kept n m b is = record { below = numbers_wider (length old.stmts) (length new.stmts) b.items grows.stmts is.below; makes = items_kept b.items is.below ∙ is.makes }

  bodies_kept : (n : ℕ) (ms : List NamedMethodTree) (bs : List typed_code.Block) → AreBodies p old n ms bs → AreBodies p new n ms bs
  bodies_kept n [] [] h = tt
  bodies_kept n [] (b ∷ bs) h = absurd h
  bodies_kept n (m ∷ ms) [] h = absurd h
  bodies_kept n (m ∷ ms) (b ∷ bs) h = (body_kept n m b h.0, bodies_kept (n + count_block m.body) ms bs h.1)

-- One body more.
module _ (p : NamedPackageTree) (nodes : TypedNodes) (m : NamedMethodTree) (b : typed_code.Block) where
  moved : (n k : ℕ) → n ≡ k → IsBody p nodes n m b → IsBody p nodes k m b
  moved n k e is = let P : ℕ → Type 0 = λ i. IsBody p nodes i m b in subst P e is

  bodies_more : (n : ℕ) (ms : List NamedMethodTree) (bs : List typed_code.Block) → AreBodies p nodes n ms bs → IsBody p nodes (n + count_methods ms) m b → AreBodies p nodes n (ms ++ m ∷ []) (bs ++ b ∷ [])
  bodies_more n [] [] h is = (moved (n + 0) n (omega arith) is, tt)
  bodies_more n [] (c ∷ bs) h is = absurd h
  bodies_more n (l ∷ ms) [] h is = absurd h
  bodies_more n (l ∷ ms) (c ∷ bs) h is =
      (h.0, bodies_more (n + count_block l.body) ms bs h.1 (moved (n + (count_block l.body + count_methods ms)) ((n + count_block l.body) + count_methods ms) (omega arith) is))

count_more : (ms : List NamedMethodTree) (m : NamedMethodTree) → count_methods (ms ++ m ∷ []) ≡ count_methods ms + count_block m.body
count_more [] m = omega arith
count_more (l ∷ ms) m = let e = count_more ms m in omega (arith, e)

pub bodies_next : (q : NamedParts) (done : List NamedMethodTree) (old new : TypedNodes) (bs : List typed_code.Block) (m : NamedMethodTree) (b : typed_code.Block) → BodiesMade q done old bs
    → Adds [] old new → AddsEntries old new (method_entries (named_package q) m) → IsBegun q new → StandsForBlock (in_method (named_package q) m) [] (length old.stmts) m.body new b
    → BodiesMade q (done ++ m ∷ []) new (bs ++ b ∷ [])
bodies_next q done old new bs m b made adds more begun stands = record {
  entries = entries_more (named_package q) done m old new made.entries more;
  declared = adds.grows.rest ∙ made.declared;
  begun = begun;
  jumps = adds.jumps (length new.stmts) refl (omega arith) (jumps_wider (length old.stmts) (length new.stmts) old.stmts adds.grows.stmts made.jumps);
  count = stands.count ∙ ap (λ n. n + count_block m.body) made.count ∙ sym (count_more done m);
  bodies =
      let is : IsBody (named_package q) new (length old.stmts) m b = record { below = stands.below; makes = stands.makes } in
      bodies_more (named_package q) new m b 0 done bs (bodies_kept (named_package q) old new adds.grows 0 done bs made.bodies)
      (moved (named_package q) new m b (length old.stmts) (0 + count_methods done) (omega (arith, made.count)) is);
}

-- What is declared among the nodes.
texts_declared : (q : NamedParts) → (declared_nodes q).texts ≡ q.texts
unfolding declared_nodes
texts_declared q = refl

statuses_declared : (q : NamedParts) → length (declared_nodes q).statuses ≡ 10 + length (named_package q).statuses
unfolding declared_nodes named_package
statuses_declared q =
    length-append base_statuses (map (λ (w : Word). seen_text q.package_name w.text) (map (word_at q.texts) q.statuses))
    ∙ ap (λ n. 10 + n) (length-map (map (word_at q.texts) q.statuses) (λ (w : Word). seen_text q.package_name w.text))

marks_of : (q : NamedParts) (ms : List NamedMethod) → map (λ (m : Method). m.mark) (map (declared_method q) ms) ≡ map (λ (m : NamedMethodTree). m.mark) (map (method_made q.texts (exprs_of q) (stmts_of q)) ms)
marks_of q [] = refl
marks_of q (m ∷ ms) = ap (λ marks. m.mark ∷ marks) (marks_of q ms)

marks_declared : (q : NamedParts) → map (λ (m : Method). m.mark) (declared_nodes q).methods ≡ map (λ (m : NamedMethodTree). m.mark) (named_package q).methods
unfolding declared_nodes named_package
marks_declared q = marks_of q q.methods

begun : (q : NamedParts) → IsBegun q (without_name_and_orders (declared_nodes q))
unfolding declared_nodes
begun q = record { texts = texts_declared q; statuses = statuses_declared q; marks = marks_declared q; stmts = record { ordered = refl; few = omega arith } }

none_made : (q : NamedParts) → BodiesMade q [] (without_name_and_orders (declared_nodes q)) []
unfolding declared_nodes entries
none_made q = record { entries = refl; declared = refl; begun = begun q; jumps = refl; count = refl; bodies = tt }

pub bodies_begun : (q : NamedParts) (nodes : TypedNodes) → nodes ≡ without_name_and_orders (declared_nodes q) → BodiesMade q [] nodes []
bodies_begun q nodes h = let P : TypedNodes → Type 0 = λ x. BodiesMade q [] x [] in subst P (sym h) (none_made q)

-- The methods in order.
methods_are : (q : NamedParts) → (named_package q).methods ≡ map (method_made q.texts (exprs_of q) (stmts_of q)) q.methods
unfolding named_package
methods_are q = refl

pub methods_more : {X Y : Type 0} (made : X → Y) (xs : List X) (i : ℕ) (x : X) → i < length xs → x ≡ get_or xs i x → map made (take (i + 1) xs) ≡ map made (take i xs) ++ made x ∷ []
methods_more made xs i x low is =
    ap (map made) (take_more xs i x low ∙ ap (λ y. take i xs ++ y ∷ []) (sym is)) ∙ map-append made (take i xs) (x ∷ [])

pub bodies_with : (q : NamedParts) (i : ℕ) (m : NamedMethod) → i < length q.methods → m ≡ get_or q.methods i m → (old new : TypedNodes) (bs cs : List typed_code.Block) (b : typed_code.Block)
    → BodiesMade q (map (method_made q.texts (exprs_of q) (stmts_of q)) (take i q.methods)) old bs → Adds [] old new → AddsEntries old new (method_entries (named_package q) (method_made q.texts (exprs_of q) (stmts_of q) m)) → IsBegun q new
    → StandsForBlock (in_method (named_package q) (method_made q.texts (exprs_of q) (stmts_of q) m)) [] (length old.stmts) (method_made q.texts (exprs_of q) (stmts_of q) m).body new b
    → cs ≡ bs ++ b ∷ [] → BodiesMade q (map (method_made q.texts (exprs_of q) (stmts_of q)) (take (i + 1) q.methods)) new cs
bodies_with q i m low is old new bs cs b made adds more begun stands e =
    let of = method_made q.texts (exprs_of q) (stmts_of q) in
    let P : List NamedMethodTree → Type 0 = λ ms. BodiesMade q ms new cs in
    let R : List typed_code.Block → Type 0 = λ xs. BodiesMade q (map of (take i q.methods) ++ of m ∷ []) new xs in
    subst P (sym (methods_more of q.methods i m low is)) (subst R (sym e) (bodies_next q (map of (take i q.methods)) old new bs (of m) b made adds more begun stands))

pub bodies_over : (q : NamedParts) (i : ℕ) (nodes : TypedNodes) (bs : List typed_code.Block) → length q.methods ≤ i
    → BodiesMade q (map (method_made q.texts (exprs_of q) (stmts_of q)) (take i q.methods)) nodes bs → BodiesMade q (named_package q).methods nodes bs
bodies_over q i nodes bs past made =
    let P : List NamedMethodTree → Type 0 = λ ms. BodiesMade q ms nodes bs in
    subst P (ap (map (method_made q.texts (exprs_of q) (stmts_of q))) (take_all i q.methods past) ∙ sym (methods_are q)) made

-- The nodes of their locals likewise.
pub locals_with : (q : NamedParts) (i : ℕ) (m : NamedMethod) → i < length q.methods → m ≡ get_or q.methods i m → (old new : TypedNodes) (es fs : List ExprId) (e : ExprId)
    → MethodsHaveNodes (named_package q) old es (map (method_made q.texts (exprs_of q) (stmts_of q)) (take i q.methods)) → Adds [] old new
    → HaveNodes (in_method (named_package q) (method_made q.texts (exprs_of q) (stmts_of q) m)) new e.0 (places_of (method_made q.texts (exprs_of q) (stmts_of q) m).locals) → fs ≡ es ++ e ∷ []
    → MethodsHaveNodes (named_package q) new fs (map (method_made q.texts (exprs_of q) (stmts_of q)) (take (i + 1) q.methods))
locals_with q i m low is old new es fs e done adds here all =
    let of = method_made q.texts (exprs_of q) (stmts_of q) in
    let P : List NamedMethodTree → Type 0 = λ ms. MethodsHaveNodes (named_package q) new fs ms in
    let Q : List ExprId → Type 0 = λ xs. MethodsHaveNodes (named_package q) new xs (map of (take i q.methods) ++ of m ∷ []) in
    subst P (sym (methods_more of q.methods i m low is)) (subst Q (sym all) (methods_with (named_package q) old new es (map of (take i q.methods)) e (of m) adds.grows done here))

pub locals_over : (q : NamedParts) (i : ℕ) (nodes : TypedNodes) (es : List ExprId) → length q.methods ≤ i
    → MethodsHaveNodes (named_package q) nodes es (map (method_made q.texts (exprs_of q) (stmts_of q)) (take i q.methods)) → MethodsHaveNodes (named_package q) nodes es (named_package q).methods
locals_over q i nodes es past done =
    let P : List NamedMethodTree → Type 0 = λ ms. MethodsHaveNodes (named_package q) nodes es ms in
    subst P (ap (map (method_made q.texts (exprs_of q) (stmts_of q))) (take_all i q.methods past) ∙ sym (methods_are q)) done

pub method_at : (q : NamedParts) (i : ℕ) (m : NamedMethod) → slice_get q.methods i ≡ Some m → slice_get (named_package q).methods i ≡ Some (method_made q.texts (exprs_of q) (stmts_of q) m)
method_at q i m h = ap (λ ms. slice_get ms i) (methods_are q) ∙ slice_get-map (method_made q.texts (exprs_of q) (stmts_of q)) q.methods i ∙ ap (option_map (method_made q.texts (exprs_of q) (stmts_of q))) h
