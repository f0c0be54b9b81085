-- Values by tables are the values by the list of the constants before it.
use Rattle.std.proofs.Common.{◌≡◌, ℕ, ◌+◌, Bool, true, false, if◌then◌else◌, List, [], ◌∷◌, ◌++◌, Option, Some, None, nat_eq, cond, length, Result, Ok, Err, IfOk, OnOk, take, slice_index_or, ◌<◌, ◌≤◌, zero, suc, slice_get, drop, refl, sym, ap, ◌∙◌, subst, arith}
use Rattle.std.specs.List.{find}
use Rattle.std.specs.Map.{lookup}
use Rattle.std.specs.Option.{option_or}
use Rattle.std.proofs.lemmas.List.Folds.{find-append}
use Rattle.indexmap.specs.IndexMap.{IndexMap, get}
use Rattle.wf_base.specs.declared.widths.Width.{Width}
use Rattle.wf_base.specs.BaseTable.{bits_of}
use Rattle.wf_ast.specs.declared.operators.Op.{Op}
use Rattle.wf_ast.specs.declared.numbers.ExprId.{ExprId}
use Rattle.wf_ast.specs.declared.parsed.Bounds.{Bounds}
use Rattle.wf_ast.specs.declared.parsed.Core.{Core}
use Rattle.wf_ast.specs.declared.parsed.Core.TheVariants as cores
use Rattle.wf_ast.specs.declared.parsed.DeclNode.{DeclNode}
use Rattle.wf_ast.specs.declared.parsed.ExprNode.{ExprNode}
use Rattle.wf_ast.specs.declared.parsed.StmtNode.{StmtNode}
use Rattle.wf_ast.specs.declared.parsed.Link.{Link}
use Rattle.wf_ast.specs.declared.parsed.Name.{Name}
use Rattle.wf_ast.specs.declared.parsed.Prefix.{Prefix}
use Rattle.wf_ast.specs.declared.parsed.Prefix.TheVariants as prefixes
use Rattle.wf_ast.specs.declared.parsed.Root.{Root}
use Rattle.wf_ast.specs.declared.parsed.Root.TheVariants as roots
use Rattle.wf_ast.specs.ParsedTree as tree
use Rattle.wf_ast.specs.declared.parsed.TypeExpr.{TypeExpr}
use Rattle.wf_ast.specs.ParsedTree.{ExprTree, PartTree, LinkTrees, TypeTree, BoundsTree, StmtTree, DeclTree}
use Rattle.wf_ast.specs.ParsedTrees.{expr_at, links_at, core_at, all_prefixed, bounds_at, type_at, expr_trees, stmt_trees, decl_trees, decl_made, decls_made}
use Rattle.wf_names_rules.specs.Declarations.{Declared, Constant, is_spelt, text_of, constants_of}
use Rattle.wf_names_rules.specs.Meanings.{width_of}
use Rattle.wf_names_rules.specs.ConstantValues.{Sized, Valued, Running, started, run_on, ended, converted, bounded, known_value, named_value, plain_width, value_of, links_value, low_value, refined_value, typed_value, constant_value, known_from}
use Rattle.wf_names_sizes.specs.declared.environment.Environment.{Environment}
use Rattle.wf_names_sizes.specs.declared.numbers.ConstantValue.{ConstantValue}
use Rattle.wf_names_sizes.specs.Capped.{sized}
use Rattle.wf_names_sizes.specs.ValuesBy.{with_first, stored, stored_value, valued, Knows, hides, constant_by, plain_by, value_by, links_by, low_by, refined_by}

stored_valued : (k : Option Valued) → stored_value (valued k) ≡ known_value k
stored_valued None = refl
stored_valued (Some k) = refl

bare_same : (b c : Bool) (x y : Option Sized) → b ≡ c → x ≡ y → (if b then None else x) ≡ (if c then None else y)
bare_same b c x y e f = ap (λ t. if t then None else x) e ∙ ap (λ v. if c then None else v) f

-- A name's value by the tables.
pub constant_is : (env : Environment) (known : List Valued) (hidden : ℕ → Bool) → Knows env.constants.now known
    → ((text : ℕ) → hides env.locals text ≡ hidden text) → (root : Root) (text : ℕ) → constant_by env root text ≡ named_value hidden known root text
constant_is env known hidden k h roots.Bare text =
    bare_same (hides env.locals text) (hidden text) (stored_value (stored (get nat_eq env.constants.now text))) (known_value (find (λ k. is_spelt text k.name) known)) (h text)
    (ap stored_value (k text) ∙ stored_valued (find (λ k. is_spelt text k.name) known))
constant_is env known hidden k h roots.This text = refl
constant_is env known hidden k h roots.Args text = refl

pub plain_is : (d : Declared) (t : TypeTree) → plain_by (text_of d) t ≡ plain_width d t
plain_is d (tree.slice_of at element) = refl
plain_is d (tree.array_of length at element) = refl
plain_is d (tree.base_type name at tree.unrefined) = refl
plain_is d (tree.base_type name at (tree.refined low high)) = refl
plain_is d (tree.status_type at bounds) = refl
plain_is d (tree.struct_type name) = refl

module _ (d : Declared) (hidden : ℕ → Bool) (known : List Valued) (constant : Root → ℕ → Option Sized) (same : (root : Root) (text : ℕ) → constant root text ≡ named_value hidden known root text) where
  mutual
    pub value_is : (e : ExprTree) → value_by (text_of d) constant e ≡ value_of d hidden known e
    value_is (tree.number value at) = refl
    value_is (tree.own_status text) = refl
    value_is (tree.base_status text at) = refl
    value_is (tree.fine at) = refl
    value_is (tree.truth value at) = refl
    value_is (tree.path path) = same path.root path.name.text.0
    value_is (tree.index base place at) = refl
    value_is (tree.slice base from to at) = refl
    value_is (tree.answer c) = refl
    value_is (tree.chain op first links at) =
        ap (λ r. ended (links_by (text_of d) constant op (started r) links)) (value_is first) ∙ ap ended (links_are op (started (value_of d hidden known first)) links)
    value_is (tree.convert of to at) = ap (λ w. converted w (value_by (text_of d) constant of)) (plain_is d to) ∙ ap (converted (plain_width d to)) (value_is of)
    value_is (tree.negation of at) = refl

    links_are : (op : Op) (r : Option Running) (links : LinkTrees) → links_by (text_of d) constant op r links ≡ links_value d hidden known op r links
    links_are op r tree.no_link = refl
    links_are op r (tree.link sign operand others) =
        ap (λ v. links_by (text_of d) constant op (run_on op r v) others) (value_is operand) ∙ links_are op (run_on op r (value_of d hidden known operand)) others

module _ (d : Declared) (known : List Valued) (value : ExprTree → Option Sized) (same : (e : ExprTree) → value e ≡ value_of d (λ text. false) known e) where
  low_is : (low : PartTree) → low_by value low ≡ low_value d known low
  low_is tree.absent = refl
  low_is (tree.present low) = same low

  pub refined_is : (bits : ℕ) (bounds : BoundsTree) (a : Option Sized) → refined_by value bits bounds a ≡ refined_value d known bits bounds a
  refined_is bits tree.unrefined None = refl
  refined_is bits tree.unrefined (Some a) = refl
  refined_is bits (tree.refined low high) a = ap (λ l. bounded bits l (value high) a) (low_is low) ∙ ap (λ h. bounded bits (low_value d known low) h a) (same high)

-- A type with a width has its bounds after it.
pub typed_is : (d : Declared) (known : List Valued) (es : List ExprTree) (ps : List Prefix) (core : Core) (bounds : Option Bounds) (width : Width) (a : Option Sized)
    → Some width ≡ width_of (text_of d) (all_prefixed es ps (core_at es core bounds))
    → typed_value d known (width_of (text_of d) (all_prefixed es ps (core_at es core bounds))) (all_prefixed es ps (core_at es core bounds)) a
    ≡ refined_value d known (bits_of width) (bounds_at es bounds) a
typed_is d known es [] (cores.Base name at) bounds width a h =
    let t = core_at es (cores.Base name at) bounds in
    ap (λ w. typed_value d known w t a) (sym h)
typed_is d known es [] (cores.BaseStatus at) bounds width a h = absurd (cc h)
typed_is d known es [] (cores.Struct name) bounds width a h = absurd (cc h)
typed_is d known es (prefixes.Slice at ∷ ps) core bounds width a h = absurd (cc h)
typed_is d known es (prefixes.Array length at ∷ ps) core bounds width a h = absurd (cc h)

-- A type of more prefixes than none has no width.
pub prefixed_width : (bytes : ℕ → List ℕ) (es : List ExprTree) (p : Prefix) (ps : List Prefix) (of : TypeTree) → width_of bytes (all_prefixed es (p ∷ ps) of) ≡ None
prefixed_width bytes es (prefixes.Slice at) ps of = refl
prefixed_width bytes es (prefixes.Array length at) ps of = refl

-- The width of a type without bounds, and of one with them.
pub plain_none : (bytes : ℕ → List ℕ) (es : List ExprTree) (ps : List Prefix) (core : Core) (b : Bounds) → plain_by bytes (all_prefixed es ps (core_at es core (Some b))) ≡ None
plain_none bytes es [] (cores.Base name at) b = refl
plain_none bytes es [] (cores.BaseStatus at) b = refl
plain_none bytes es [] (cores.Struct name) b = refl
plain_none bytes es (prefixes.Slice at ∷ ps) core b = refl
plain_none bytes es (prefixes.Array length at ∷ ps) core b = refl

pub plain_some : (bytes : ℕ → List ℕ) (es : List ExprTree) (ps : List Prefix) (core : Core) → plain_by bytes (all_prefixed es ps (core_at es core None)) ≡ width_of bytes (all_prefixed es ps (core_at es core None))
plain_some bytes es [] (cores.Base name at) = refl
plain_some bytes es [] (cores.BaseStatus at) = refl
plain_some bytes es [] (cores.Struct name) = refl
plain_some bytes es (prefixes.Slice at ∷ ps) core = refl
plain_some bytes es (prefixes.Array length at ∷ ps) core = refl

pub known_from-append : (d : Declared) (known : List Valued) (xs ys : List Constant) → known_from d known (xs ++ ys) ≡ known_from d (known_from d known xs) ys
known_from-append d known [] ys = refl
known_from-append d known (x ∷ xs) ys = known_from-append d (known ++ record { name = x.name; value = constant_value d known x } ∷ []) xs ys

-- The same for a type's width.
pub deep_width : (bytes : ℕ → List ℕ) (es : List ExprTree) (ps : List Prefix) (of : TypeTree) → 1 ≤ length ps → None ≡ width_of bytes (all_prefixed es ps of)
deep_width bytes es [] of h = absurd (omega (arith, h))
deep_width bytes es (p ∷ ps) of h = sym (prefixed_width bytes es p ps of)

-- Nothing is hidden outside methods.
pub not_hidden : (env : Environment) → env.locals ≡ None → (text : ℕ) → hides env.locals text ≡ false
not_hidden env h text = ap (λ locals. hides locals text) h

-- A constant's value by the tables.
pub constant_value_is : (d : Declared) (es : List ExprTree) (env : Environment) (known : List Valued) → env.locals ≡ None → Knows env.constants.now known
    → (of : TypeExpr) (width : Width) (number : ExprId) (name : Name) (a r : Option Sized) → Some width ≡ width_of (text_of d) (type_at es of)
    → a ≡ value_by (text_of d) (constant_by env) (expr_at es number)
    → r ≡ refined_by (value_by (text_of d) (constant_by env)) (bits_of width) (bounds_at es of.bounds) a
    → r ≡ constant_value d known (record { name = name; of = type_at es of; value = expr_at es number })
constant_value_is d es env known outside k of width number name a r h e f =
    let value : ExprTree → Option Sized = value_by (text_of d) (constant_by env) in
    let same : (e : ExprTree) → value e ≡ value_of d (λ text. false) known e = value_is d (λ text. false) known (constant_by env) (constant_is env known (λ text. false) k (not_hidden env outside)) in
    f ∙ refined_is d known value same (bits_of width) (bounds_at es of.bounds) a ∙ ap (refined_value d known (bits_of width) (bounds_at es of.bounds)) (e ∙ same (expr_at es number))
    ∙ sym (typed_is d known es of.prefixes of.core of.bounds width (value_of d (λ text. false) known (expr_at es number)) h)

-- One more constant in a table.
or_valued : (x y : Option (Option ConstantValue)) (a b : Option Valued) → stored x ≡ valued a → stored y ≡ valued b → stored (option_or x y) ≡ valued (option_or a b)
or_valued None y None b h k = k
or_valued None y (Some a) b h k = absurd (cc h)
or_valued (Some x) y None b h k = absurd (cc h)
or_valued (Some x) y (Some a) b h k = h

one_valued : (t : Bool) (v : Option ConstantValue) (k : Valued) → sized v ≡ k.value → stored (cond t (Some v) None) ≡ valued (cond t (Some k) None)
one_valued true v k h = ap (λ x. Some x) h
one_valued false v k h = refl

pub knows_more : {S T : Type 0} (old : IndexMap ℕ (Option ConstantValue) S) (new : IndexMap ℕ (Option ConstantValue) T) (known : List Valued) (k : Valued) (v : Option ConstantValue)
    → ((other : ℕ) → get nat_eq new other ≡ with_first (get nat_eq old) k.name.text.0 v other) → sized v ≡ k.value → Knows old known → Knows new (known ++ k ∷ [])
knows_more old new known k v grows same knows text =
    ap stored (grows text) ∙ or_valued (get nat_eq old text) (cond (nat_eq k.name.text.0 text) (Some v) None) (find (λ x. is_spelt text x.name) known) (find (λ x. is_spelt text x.name) (k ∷ [])) (knows text) (one_valued (nat_eq k.name.text.0 text) v k same)
    ∙ sym (ap valued (find-append (λ (x : Valued). is_spelt text x.name) known (k ∷ [])))

-- An operand more of a chain.
pub links_more : (bytes : ℕ → List ℕ) (constant : Root → ℕ → Option Sized) (op : Op) (ts : List ExprTree) (r : Option Running) (ls : List Link) (i : ℕ) (l : Link) → i < length ls
    → links_by bytes constant op r (links_at ts (take (i + 1) ls)) ≡ run_on op (links_by bytes constant op r (links_at ts (take i ls))) (value_by bytes constant (expr_at ts (slice_index_or ls i l).operand))
links_more bytes constant op ts r [] i l h = absurd (omega (arith, h))
links_more bytes constant op ts r (x ∷ xs) zero l h = refl
links_more bytes constant op ts r (x ∷ xs) (suc i) l h =
    let next : suc (i + 1) ≡ suc i + 1 = omega arith in
    let s = run_on op r (value_by bytes constant (expr_at ts x.operand)) in
    let P : ℕ → Type 0 = λ j. links_by bytes constant op r (links_at ts (take j (x ∷ xs))) ≡ run_on op (links_by bytes constant op s (links_at ts (take i xs))) (value_by bytes constant (expr_at ts (slice_index_or xs i l).operand)) in
    subst P next (links_more bytes constant op ts s xs i l (omega (arith, h)))

pub take-whole : {X : Type 0} (xs : List X) (i : ℕ) → length xs ≤ i → take i xs ≡ xs
take-whole [] zero h = refl
take-whole [] (suc i) h = refl
take-whole (x ∷ xs) zero h = absurd (omega (arith, h))
take-whole (x ∷ xs) (suc i) h = ap (λ ys. x ∷ ys) (take-whole xs i (omega (arith, h)))

-- Declarations by number.
pub decl-there : (es : List ExprTree) (ts : List StmtTree) (ds : List DeclNode) (i : ℕ) (n : DeclNode) → slice_get ds i ≡ Some n
    → drop i (decls_made es ts ds) ≡ decl_made es ts n.public n.decl n.at ∷ drop (i + 1) (decls_made es ts ds)
decl-there es ts [] i n h = absurd (cc h)
decl-there es ts (x ∷ xs) zero n h = let same : x ≡ n = cc h in ap (λ (y : DeclNode). decl_made es ts y.public y.decl y.at ∷ decls_made es ts xs) same
decl-there es ts (x ∷ xs) (suc i) n h =
    let next : suc (i + 1) ≡ suc i + 1 = omega arith in
    let P : ℕ → Type 0 = λ j. drop i (decls_made es ts xs) ≡ decl_made es ts n.public n.decl n.at ∷ drop j (decls_made es ts (x ∷ xs)) in
    subst P next (decl-there es ts xs i n h)

pub decls-over : (es : List ExprTree) (ts : List StmtTree) (ds : List DeclNode) (i : ℕ) → length ds ≤ i → drop i (decls_made es ts ds) ≡ []
decls-over es ts [] zero h = refl
decls-over es ts [] (suc i) h = refl
decls-over es ts (x ∷ xs) zero h = absurd (omega (arith, h))
decls-over es ts (x ∷ xs) (suc i) h = decls-over es ts xs i (omega (arith, h))

pub constants-append : (t : DeclTree) (rest : List DeclTree) → constants_of (t ∷ rest) ≡ constants_of (t ∷ []) ++ constants_of rest
constants-append (tree.status public text at) rest = refl
constants-append (tree.constant public name of value at) rest = refl
constants-append (tree.structure public name mark fields at) rest = refl
constants-append (tree.method public owner name mark args result body at) rest = refl

pub constants_step : (d : Declared) (known : List Valued) (exprs : List ExprNode) (stmts : List StmtNode) (ds : List DeclNode) (i : ℕ) (n : DeclNode) → slice_get ds i ≡ Some n
    → known_from d (known_from d known (constants_of (decl_made (expr_trees exprs) (stmt_trees exprs stmts) n.public n.decl n.at ∷ []))) (constants_of (drop (i + 1) (decl_trees exprs stmts ds)))
    ≡ known_from d known (constants_of (drop i (decl_trees exprs stmts ds)))
unfolding decl_trees
constants_step d known exprs stmts ds i n h =
    let t = decl_made (expr_trees exprs) (stmt_trees exprs stmts) n.public n.decl n.at in
    let rest = drop (i + 1) (decls_made (expr_trees exprs) (stmt_trees exprs stmts) ds) in
    sym (known_from-append d known (constants_of (t ∷ [])) (constants_of rest)) ∙ ap (known_from d known) (sym (constants-append t rest))
    ∙ sym (ap (λ ts. known_from d known (constants_of ts)) (decl-there (expr_trees exprs) (stmt_trees exprs stmts) ds i n h))

pub constants_over : (d : Declared) (known : List Valued) (exprs : List ExprNode) (stmts : List StmtNode) (ds : List DeclNode) (i : ℕ) → length ds ≤ i
    → known_from d known (constants_of (drop i (decl_trees exprs stmts ds))) ≡ known
unfolding decl_trees
constants_over d known exprs stmts ds i h = ap (λ ts. known_from d known (constants_of ts)) (decls-over (expr_trees exprs) (stmt_trees exprs stmts) ds i h)

-- A list has an item at each number below its length.
pub item-there : {X : Type 0} (xs : List X) (i : ℕ) → i < length xs → (x : X) × (slice_get xs i ≡ Some x)
item-there [] i h = absurd (omega (arith, h))
item-there (x ∷ xs) zero h = (x, refl)
item-there (x ∷ xs) (suc i) h = item-there xs i (omega (arith, h))

pub on_ok : {X Y P Q : Type 0} (r : Result X Y) → (P → Q) → OnOk r P → OnOk r Q
on_ok (Ok x) f h = f h
on_ok (Err e) f h = h

-- A table without entries.
pub empty_knows : {S : Type 0} (table : IndexMap ℕ (Option ConstantValue) S) → table.entries ≡ [] → Knows table []
empty_knows table h text = ap (λ entries. stored (lookup (nat_eq text) entries)) h

pub if_ok : {X Y : Type 0} (P Q : X → Type 0) (r : Result X Y) → ((x : X) → P x → Q x) → IfOk r P → IfOk r Q
if_ok P Q (Ok x) f h = f x h
if_ok P Q (Err e) f h = h
