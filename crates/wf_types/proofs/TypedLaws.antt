-- The nodes of a package that breaks no rule are those of a typed package.
use Rattle.std.proofs.Common.{◌≡◌, ◌∙◌, refl, sym, ap, subst, ℕ, ◌+◌, ◌<◌, true, not, List, [], ◌∷◌, length, map, take, drop, Option, None, nat_lt, nat_le, ◌≤◌, arith}
use Rattle.std.specs.List.{list_all, flat_map}
use Rattle.std.proofs.lemmas.Bool.Decides.{nat_tests}
use Rattle.std.proofs.lemmas.List.{length-map}
use Rattle.wf_text.specs.declared.rules.Rule.TheVariants.{T5}
use Rattle.wf_text.specs.declared.categories.Category.TheVariants.{Fine}
use Rattle.wf_text.specs.StatusText.{category_of}
use Rattle.wf_ast.specs.declared.numbers.ExprId.{ExprId}
use Rattle.wf_ast.specs.declared.types.Ty.{Ty}
use Rattle.wf_ast.specs.declared.typed_code.Block as typed_code
use Rattle.wf_ast.specs.declared.typed_code.Stmt.{Stmt}
use Rattle.wf_ast.specs.declared.typed_code.Stmt.TheVariants as stmts
use Rattle.wf_ast.specs.declared.typed_code.StmtNode.{StmtNode}
use Rattle.wf_ast.specs.declared.typed_nodes.TypedNodes.{TypedNodes}
use Rattle.wf_ast.specs.StatementOrder.{stand_in_order}
use Rattle.wf_ast.specs.TypedInvariant.{each_numbered, stmt_below, block_below, has_kind_byte, has_few_variables, numbers_in, numbers_from, IsTyped}
use Rattle.wf_ast.specs.TypedPackage.{MethodTree, PackageTree}
use Rattle.wf_ast.specs.TypedTrees.{block_of, expr_trees, stmt_makers}
use Rattle.wf_ast.specs.Value.{same_category}
use Rattle.wf_ast.specs.WellTyped.{well_typed}
use Rattle.wf_ast.proofs.Arena.{both_true}
use Rattle.wf_named.specs.NamedParts.{NamedParts, exprs_of, stmts_of, named_package}
use Rattle.wf_named.specs.NamedTree.{Word, NamedExprTree, NamedMethodTree, NamedPackageTree}
use Rattle.wf_named.specs.NamedTrees.{word_at, var_made, method_made}
use Rattle.wf_named.specs.WellNamed.{well_named}
use Rattle.wf_named.specs.WellNamed as names
use Rattle.wf_named.specs.declared.declarations.NamedMethod.{NamedMethod}
use Rattle.wf_named.specs.declared.declarations.NamedVar.{NamedVar}
use Rattle.wf_named.specs.Grammar.{package_by_grammar}
use Rattle.wf_types_rules.specs.declared.settings.Role.TheVariants as roles
use Rattle.wf_types_rules.specs.DeclaredTypes.{for_types, types_in}
use Rattle.wf_types_rules.specs.FirstBreak.{deciding}
use Rattle.wf_types_rules.specs.Judgements.{is_status_text, wrong_status}
use Rattle.wf_types_rules.specs.Parts.{status_declared, at_sites, const_sites, sites}
use Rattle.wf_types_rules.proofs.TypeRows as rows
use Rattle.wf_typed_tree.specs.ElaboratedPackage.{seen_text, typed_package}
use Rattle.wf_typed_tree.specs.ElaboratedStmts.{count_block}
use Rattle.wf_typed_tree.proofs.Agreement.{package-is}
use Rattle.wf_typed_tree.proofs.BlockLaws.{package-keeps}
use Rattle.wf_typed_tree.proofs.ConstantLaws.{AllFineSites, sites-fine, sites-split, parts-fine}
use Rattle.wf_typed_tree.proofs.NoBreaks.{AllFine, at-none, not-not}
use Rattle.wf_typed_tree.proofs.NumberingLaws.{package-numbers}
use Rattle.wf_typed_exprs.specs.Growth.{IsBuilt}
use Rattle.wf_typed_stmts.specs.StmtGrowth.{without_nodes, stmt_there, jump_below, jumps_below}
use Rattle.wf_types.specs.Bodies.{without_bodies, AreBodies, BodiesMade, IsWhole, finished, has_numbers}
use Rattle.wf_types.specs.DeclaredNodes.{variables_with, declared_method, seen_statuses, declared_nodes, without_name_and_orders}
use Rattle.wf_types.specs.Locals.{MethodsHaveNodes}
use Rattle.wf_types.proofs.EntryLemmas.{entries_with}
use Rattle.wf_types.proofs.LocalLemmas.{locals_placed, locals_stand}
use Rattle.wf_types.proofs.PackageLaws.{package_same}

-- Status texts that break no rule begin with the byte of their kind, also as a caller sees them.
text_told : (name text : List ℕ) → is_status_text text ≡ true → has_kind_byte (seen_text name text) ≡ true
text_told name [] h = absurd (cc h)
text_told name (a ∷ []) h = absurd (cc h)
text_told name (a ∷ b ∷ bs) h = (both_true (not (same_category Fine (category_of (a ∷ [])))) _ h).0

module _ (p : NamedPackageTree) (name : List ℕ) where
  texts_told : (ws : List Word) → AllFine p (for_types p) (map status_declared ws) → list_all has_kind_byte (map (λ (w : Word). seen_text name w.text) ws) ≡ true
  texts_told [] h = refl
  texts_told (w ∷ ws) h =
      let right : is_status_text w.text ≡ true = not-not (is_status_text w.text) (at-none (not (is_status_text w.text)) w.at (h.0 T5 wrong_status rows.wrong_status)) in
      let first = text_told name w.text right in
      let others = texts_told ws h.1 in
      rw (first, others) refl

statuses-fine : (p : NamedPackageTree) → deciding p ≡ None → AllFine p (for_types p) (map status_declared p.statuses)
unfolding sites
statuses-fine p none =
    let fine : AllFineSites p (sites p) = sites-fine p none in
    let behind = sites-split p (const_sites [] p.consts) _ fine in
    parts-fine p (for_types p) (map status_declared p.statuses) (sites-split p (at_sites (for_types p) (map status_declared p.statuses)) _ behind.1).0

own_words : (q : NamedParts) → (named_package q).statuses ≡ map (word_at q.texts) q.statuses
unfolding named_package
own_words q = refl

statuses_told : (q : NamedParts) → deciding (named_package q) ≡ None → list_all has_kind_byte (drop 1 (seen_statuses q)) ≡ true
statuses_told q none =
    let p = named_package q in
    let P : List Word → Type 0 = λ ws. AllFine p (for_types p) (map status_declared ws) in
    texts_told p q.package_name (map (word_at q.texts) q.statuses) (subst P (own_words q) (statuses-fine p none))

-- One body for each method, and each of statements that are there.
bodies_long : (p : NamedPackageTree) (nodes : TypedNodes) (n : ℕ) (ms : List NamedMethodTree) (bs : List typed_code.Block) → AreBodies p nodes n ms bs → length bs ≡ length ms
bodies_long p nodes n [] [] h = refl
bodies_long p nodes n [] (b ∷ bs) h = absurd h
bodies_long p nodes n (m ∷ ms) [] h = absurd h
bodies_long p nodes n (m ∷ ms) (b ∷ bs) h = let e = bodies_long p nodes (n + count_block m.body) ms bs h.1 in omega (arith, e)

bodies_below : (p : NamedPackageTree) (nodes : TypedNodes) (n : ℕ) (ms : List NamedMethodTree) (bs : List typed_code.Block) → AreBodies p nodes n ms bs
    → list_all (λ b. block_below (length nodes.stmts) b) bs ≡ true
bodies_below p nodes n [] [] h = refl
bodies_below p nodes n [] (b ∷ bs) h = absurd h
bodies_below p nodes n (m ∷ ms) [] h = absurd h
bodies_below p nodes n (m ∷ ms) (b ∷ bs) h =
    let first = h.0.below in
    let others = bodies_below p nodes (n + count_block m.body) ms bs h.1 in
    rw (first, others) refl

-- Statements whose jumps tell statements.
stmt_kept : (nodes : TypedNodes) (s : ℕ) (st : Stmt) → stmt_there nodes s st ≡ true → jump_below (length nodes.stmts) st ≡ true → stmt_below nodes s st ≡ true
stmt_kept nodes s (stmts.Break w) h j = j
stmt_kept nodes s (stmts.Continue w) h j = j
stmt_kept nodes s st h j = h

stmts_kept : (nodes : TypedNodes) (s : ℕ) (ns : List StmtNode) → each_numbered (λ s node. stmt_there nodes s node.stmt) s ns ≡ true → jumps_below (length nodes.stmts) ns ≡ true
    → each_numbered (λ s node. stmt_below nodes s node.stmt) s ns ≡ true
stmts_kept nodes s [] h j = refl
stmts_kept nodes s (n ∷ ns) h j =
    let there = both_true (stmt_there nodes s n.stmt) _ h in
    let jumps = both_true (jump_below (length nodes.stmts) n.stmt) _ j in
    let first = stmt_kept nodes s n.stmt there.0 jumps.0 in
    let others = stmts_kept nodes (s + 1) ns there.1 jumps.1 in
    rw (first, others) refl

-- What is declared among the nodes.
statuses_are : (q : NamedParts) → (declared_nodes q).statuses ≡ seen_statuses q
unfolding declared_nodes
statuses_are q = refl

methods_long : (q : NamedParts) → length (declared_nodes q).methods ≡ length (named_package q).methods
unfolding declared_nodes named_package
methods_long q = length-map q.methods (declared_method q) ∙ sym (length-map q.methods (method_made q.texts (exprs_of q) (stmts_of q)))

-- The bodies change no tree.
blocks_same : (q : NamedParts) (nodes : TypedNodes) (bs : List typed_code.Block) (es : List ExprId) (b : typed_code.Block) → block_of (finished q nodes bs es) b ≡ block_of nodes b
unfolding stmt_makers expr_trees
blocks_same q nodes bs es b = refl

bodies_placed : (p : NamedPackageTree) (q : NamedParts) (nodes : TypedNodes) (all : List typed_code.Block) (es : List ExprId) (n : ℕ) (ms : List NamedMethodTree) (bs : List typed_code.Block) → AreBodies p nodes n ms bs
    → AreBodies p (finished q nodes all es) n ms bs
bodies_placed p q nodes all es n [] [] h = tt
bodies_placed p q nodes all es n [] (b ∷ bs) h = absurd h
bodies_placed p q nodes all es n (m ∷ ms) [] h = absurd h
bodies_placed p q nodes all es n (m ∷ ms) (b ∷ bs) h =
    (record { below = h.0.below; makes = blocks_same q nodes all es b ∙ h.0.makes }, bodies_placed p q nodes all es (n + count_block m.body) ms bs h.1)

-- With its name and its orders, what was declared is all that is declared.
abbrev handed_on : NamedParts → TypedNodes → TypedNodes
handed_on q nodes = without_bodies (finished q nodes [] [])

declared_alone : (q : NamedParts) → handed_on q (without_name_and_orders (declared_nodes q)) ≡ declared_nodes q
unfolding declared_nodes
declared_alone q = refl

whole_made : (q : NamedParts) (nodes : TypedNodes) (bs : List typed_code.Block) (es : List ExprId) → BodiesMade q (named_package q).methods nodes bs
    → MethodsHaveNodes (named_package q) nodes es (named_package q).methods → IsBuilt nodes → IsWhole q (finished q nodes bs es)
whole_made q nodes bs es made locals built = record {
  declared = ap (handed_on q) made.declared ∙ declared_alone q;
  bodies = bodies_placed (named_package q) q nodes bs es 0 (named_package q).methods bs made.bodies;
  entries = entries_with q nodes bs es ∙ made.entries;
  exprs = record { ordered = built.ordered; kinds = built.kinds; typed = built.typed; counted = built.counted; few = built.few };
  stmts = record { ordered = made.begun.stmts.ordered; few = made.begun.stmts.few };
  jumps = made.jumps;
  count = made.count;
  locals = locals_placed (named_package q) q nodes bs es es (named_package q).methods locals;
}

pub declared_bare : (q : NamedParts) → without_nodes (without_name_and_orders (declared_nodes q)) ≡ without_name_and_orders (declared_nodes q)
unfolding declared_nodes
declared_bare q = refl

pub whole_at : (q : NamedParts) (nodes all whole : TypedNodes) (bs : List typed_code.Block) (es : List ExprId) → BodiesMade q (named_package q).methods nodes bs
    → MethodsHaveNodes (named_package q) nodes es (named_package q).methods → all ≡ nodes → IsBuilt all → whole ≡ finished q all bs es → IsWhole q whole
whole_at q nodes all whole bs es made locals same built is =
    let M : TypedNodes → Type 0 = λ x. BodiesMade q (named_package q).methods x bs in
    let L : TypedNodes → Type 0 = λ x. MethodsHaveNodes (named_package q) x es (named_package q).methods in
    let W : TypedNodes → Type 0 = λ x. IsWhole q x in
    subst W (sym is) (whole_made q all bs es (subst M (sym same) made) (subst L (sym same) locals) built)

-- A method has as many variables as in the resolved tree, and not more.
variables_few : (xs : List NamedVar) (tys : List (Option Ty)) → length (variables_with xs tys) ≤ length xs
variables_few [] tys = omega arith
variables_few (x ∷ xs) [] = omega arith
variables_few (x ∷ xs) (ty ∷ tys) = let k = variables_few xs tys in omega (arith, k)

still_few : (texts : List (List ℕ)) (es : List NamedExprTree) (xs : List NamedVar) (tys : List (Option Ty)) (most : ℕ) → nat_le (length (map (var_made texts es) xs)) most ≡ true
    → nat_le (length (variables_with xs tys)) most ≡ true
still_few texts es xs tys most h =
    let long = length-map xs (var_made texts es) in
    let k = variables_few xs tys in
    grind (arith, nat_tests, h, k, long)

module _ (q : NamedParts) where
  methods_few : (ms : List NamedMethod) → list_all names.has_few_variables (map (method_made q.texts (exprs_of q) (stmts_of q)) ms) ≡ true → list_all has_few_variables (map (declared_method q) ms) ≡ true
  methods_few [] h = refl
  methods_few (m ∷ ms) h =
      let it = method_made q.texts (exprs_of q) (stmts_of q) m in
      let parts = both_true (names.has_few_variables it) _ h in
      let vars = both_true (nat_le (length it.args) 64) (nat_le (length it.locals) 256) parts.0 in
      let args = still_few q.texts (exprs_of q) m.args (types_in (named_package q) roles.Arg it.args) 64 vars.0 in
      let locals = still_few q.texts (exprs_of q) m.locals (types_in (named_package q) roles.Local it.locals) 256 vars.1 in
      let others = methods_few ms parts.1 in
      rw (args, locals, others) refl

  named_methods : (named_package q).methods ≡ map (method_made q.texts (exprs_of q) (stmts_of q)) q.methods
  unfolding named_package
  named_methods = refl

  methods_declared : (declared_nodes q).methods ≡ map (declared_method q) q.methods
  unfolding declared_nodes
  methods_declared = refl

  all_few : list_all names.has_few_variables (named_package q).methods ≡ true → list_all has_few_variables (map (declared_method q) q.methods) ≡ true
  all_few h = methods_few q.methods (ap (list_all names.has_few_variables) (sym named_methods) ∙ h)

-- The whole.
below : (m n : ℕ) → nat_lt m n ≡ true → m < n
below m n h = grind (arith, nat_tests, h)

pub nodes_typed : (q : NamedParts) (nodes : TypedNodes) → IsWhole q nodes → deciding (named_package q) ≡ None → well_named (named_package q) ≡ true → package_by_grammar (named_package q) ≡ true
    → stand_in_order (typed_package (named_package q)) ≡ true → has_numbers nodes ≡ true → IsTyped nodes
nodes_typed q nodes whole none named grammar placed numbers =
    let p = named_package q in
    let same = package_same q nodes whole.declared whole.bodies in
    let statuses : nodes.statuses ≡ seen_statuses q = ap (λ (x : TypedNodes). x.statuses) whole.declared ∙ statuses_are q in
    let first = both_true (nat_lt (length nodes.statuses) 4294967296) _ numbers in
    let others = both_true (nat_lt (length nodes.structs) 4294967296) (nat_lt (length nodes.methods) 4294967296) first.1 in
    let W : PackageTree → Type 0 = λ t. well_typed t ≡ true in
    let P : PackageTree → Type 0 = λ t. stand_in_order t ≡ true in
    let methods : nodes.methods ≡ map (declared_method q) q.methods = ap (λ (x : TypedNodes). x.methods) whole.declared ∙ methods_declared q in
    record {
      exprs_ordered = whole.exprs.ordered;
      stmts_ordered = stmts_kept nodes 0 nodes.stmts whole.stmts.ordered whole.jumps;
      typed = whole.exprs.typed;
      counted = whole.exprs.counted;
      bodied = bodies_long p nodes 0 p.methods nodes.bodies whole.bodies ∙ sym (methods_long q) ∙ sym (ap (λ (x : TypedNodes). length x.methods) whole.declared);
      base_first = ap (take 10) statuses;
      told = ap (λ texts. list_all has_kind_byte (drop 1 texts)) statuses ∙ statuses_told q none;
      few_statuses = below (length nodes.statuses) 4294967296 first.0;
      few_exprs = whole.exprs.few;
      few_stmts = whole.stmts.few;
      few_structs = below (length nodes.structs) 4294967296 others.0;
      few_methods = below (length nodes.methods) 4294967296 others.1;
      bodies_made = bodies_below p nodes 0 p.methods nodes.bodies whole.bodies;
      kinds = whole.exprs.kinds;
      rules = subst W (sym same) (package-keeps p none named grammar);
      placed = subst P (sym same) placed;
      few_variables = ap (list_all has_few_variables) methods ∙ all_few q (package-is p none named).few;
      locals_stand = locals_stand q nodes none named whole.exprs nodes.first_locals methods whole.locals;
      numbered = ap (λ (t : PackageTree). flat_map (λ (m : MethodTree). numbers_in m.body) t.methods) same ∙ (package-numbers p grammar ∙ ap (numbers_from 0) (sym whole.count));
    }
