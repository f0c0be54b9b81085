-- What lowering makes of a list of the source is made item by item.
use Rattle.std.proofs.Common.{◌≡◌, ◌∙◌, ap, sym, ℕ, suc, Bool, true, false, ◌&&◌, if◌then◌else◌, List, [], ◌∷◌, ◌++◌, map, refl, codes}
use Rattle.std.specs.Prelude.{nat_eq, slice_get}
use Rattle.wf_ast.specs.declared.declarations.Var.{Var}
use Rattle.wf_ast.specs.declared.types.Ty.{Ty}
use Rattle.wf_ast.specs.declared.types.Ty.TheVariants as types
use Rattle.wf_ast.specs.declared.typed_nodes.TypedNodes.{TypedNodes}
use Rattle.wf_ast.specs.declared.variables.LocalId.{LocalId}
use Rattle.wf_ast.specs.TypedPackage.{MethodTree, PackageTree, kind_of, variable_of}
use Rattle.wf_ast.specs.WellTyped.{is_coroutine}
use Rattle.c_text.proofs.Trees.{append_nil}
use Rattle.c_text.specs.CTree.{Code, FieldTree, ParamTree, LocalTree, ItemTree, text_item}
use Rattle.c_meaning.specs.UnitForm.{arg_params, args_params}
use Rattle.wf_exprs.specs.Names.{status_name}
use Rattle.wf_exprs.specs.Reads.{code_reads}
use Rattle.wf_lower_stmts.specs.Forms.{Form, is_io}
use Rattle.wf_lower.specs.Bodies.{bytes_locals, io_locals, local_of, locals_of, only_read, public_args}
use Rattle.wf_lower.specs.Structs.{field_if, kept_of, listed_fields, method_fields, typed_field}
use Rattle.wf_lower.specs.Unit.{coroutine_fields, is_used, methods_fields, source_field, used_texts}

pub front_nil : {A : Type 0} (xs ys : List A) → xs ++ ys ≡ (xs ++ []) ++ ys
front_nil xs ys = ap (λ l. l ++ ys) (sym (append_nil xs))

one_or_none : {A : Type 0} (b : Bool) (x : A) (xs : List A) → (if b then x ∷ xs else xs) ≡ (if b then x ∷ [] else []) ++ xs
one_or_none true x xs = refl
one_or_none false x xs = refl

two_or_none : {A : Type 0} (b : Bool) (x y : A) (xs : List A) → (if b then x ∷ y ∷ xs else xs) ≡ (if b then x ∷ y ∷ [] else []) ++ xs
two_or_none true x y xs = refl
two_or_none false x y xs = refl

-- Parameters of arguments.
abbrev pub params_walk : TypedNodes → ℕ → List Var → List ParamTree
params_walk nodes n xs = args_params (public_args (map (variable_of nodes) xs))

pub params_cons : (nodes : TypedNodes) (n : ℕ) (x : Var) (xs : List Var) → params_walk nodes n (x ∷ xs) ≡ params_walk nodes n (x ∷ []) ++ params_walk nodes (suc n) xs
params_cons nodes n x xs = front_nil (arg_params (record { name = (variable_of nodes x).name; kind = kind_of x.ty })) (params_walk nodes n xs)

-- The places and ends of readers and writers.
abbrev pub io_walk : Form → TypedNodes → ℕ → List Var → List LocalTree
io_walk f nodes n xs = io_locals f n (map (variable_of nodes) xs)

pub io_cons : (f : Form) (nodes : TypedNodes) (n : ℕ) (x : Var) (xs : List Var) → io_walk f nodes n (x ∷ xs) ≡ io_walk f nodes n (x ∷ []) ++ io_walk f nodes (suc n) xs
io_cons f nodes n x xs = two_or_none (is_io x.ty) _ _ (io_walk f nodes (suc n) xs)

-- The source's locals.
abbrev pub locals_walk : TypedNodes → ℕ → List Var → List LocalTree
locals_walk nodes n xs = locals_of (map (variable_of nodes) xs)

pub locals_cons : (nodes : TypedNodes) (n : ℕ) (x : Var) (xs : List Var) → locals_walk nodes n (x ∷ xs) ≡ locals_walk nodes n (x ∷ []) ++ locals_walk nodes (suc n) xs
locals_cons nodes n x xs = front_nil (local_of (variable_of nodes x)) (locals_walk nodes n xs)

-- What the code reads.
read_both : (code : Code) (xs ys : List LocalTree) → only_read code (xs ++ ys) ≡ only_read code xs ++ only_read code ys
read_both code [] ys = refl
read_both code (x ∷ xs) ys = ap (λ l. if code_reads x.name code then x ∷ l else l) (read_both code xs ys) ∙ read_on (code_reads x.name code) x (only_read code xs) (only_read code ys)
  where
    read_on : (b : Bool) (x : LocalTree) (xs ys : List LocalTree) → (if b then x ∷ (xs ++ ys) else (xs ++ ys)) ≡ (if b then x ∷ xs else xs) ++ ys
    read_on true x xs ys = refl
    read_on false x xs ys = refl

pub read_apart : (code : Code) (xs ys : List LocalTree) → only_read code (xs ++ ys) ≡ only_read code xs ++ only_read code ys
read_apart code xs ys = read_both code xs ys

abbrev pub bytes_walk : Form → TypedNodes → ℕ → List Var → List LocalTree
bytes_walk f nodes n xs = bytes_locals f n (map (variable_of nodes) xs)

pub bytes_cons : (f : Form) (nodes : TypedNodes) (n : ℕ) (x : Var) (xs : List Var) → bytes_walk f nodes n (x ∷ xs) ≡ bytes_walk f nodes n (x ∷ []) ++ bytes_walk f nodes (suc n) xs
bytes_cons f nodes n x xs = one_or_none (is_io x.ty) _ (bytes_locals f (suc n) (map (variable_of nodes) xs))

-- What a coroutine keeps, by the numbers of its locals.
abbrev pub kept_walk : (method : List ℕ) → TypedNodes → List Var → ℕ → List LocalId → List FieldTree
kept_walk method nodes locals n xs = listed_fields method (map (variable_of nodes) locals) xs

pub kept_cons : (method : List ℕ) (nodes : TypedNodes) (locals : List Var) (n : ℕ) (x : LocalId) (xs : List LocalId) → kept_walk method nodes locals n (x ∷ xs) ≡ kept_walk method nodes locals n (x ∷ []) ++ kept_walk method nodes locals (suc n) xs
kept_cons method nodes locals n x xs = front_nil (field_if method (slice_get (map (variable_of nodes) locals) x.0)) (kept_walk method nodes locals (suc n) xs)

-- What the methods of a struct keep.
pub methods_cons : (s n : ℕ) (m : MethodTree) (ms : List MethodTree) → methods_fields s (m ∷ ms) ≡ methods_fields s (m ∷ []) ++ methods_fields s ms
methods_cons s n m ms = fields_on (nat_eq m.of s) (coroutine_fields m) (methods_fields s ms)
  where
    fields_on : (b : Bool) (xs ys : List FieldTree) → (if b then xs ++ ys else ys) ≡ (if b then xs ++ [] else []) ++ ys
    fields_on true xs ys = front_nil xs ys
    fields_on false xs ys = refl

pub method_alone : (s : ℕ) (m : MethodTree) → method_fields s m ≡ methods_fields s (m ∷ [])
method_alone s m = ap (λ l. if nat_eq m.of s then l else []) (sym (append_nil (coroutine_fields m)))

pub method_keeps : (s : ℕ) (m : MethodTree) → (nat_eq m.of s && is_coroutine m.mark) ≡ true → kept_of m ≡ method_fields s m
method_keeps s m h = keeps (nat_eq m.of s) (is_coroutine m.mark) (kept_of m) h
  where
    keeps : (a b : Bool) (xs : List FieldTree) → (a && b) ≡ true → xs ≡ (if a then (if b then xs else []) else [])
    keeps true true xs h = refl
    keeps true false xs h = absurd (cc h)
    keeps false b xs h = absurd (cc h)

pub method_keeps_none : (s : ℕ) (m : MethodTree) → (nat_eq m.of s && is_coroutine m.mark) ≡ false → [] ≡ method_fields s m
method_keeps_none s m h = keeps (nat_eq m.of s) (is_coroutine m.mark) (kept_of m) h
  where
    keeps : (a b : Bool) (xs : List FieldTree) → (a && b) ≡ false → [] ≡ (if a then (if b then xs else []) else [])
    keeps true true xs h = absurd (cc h)
    keeps true false xs h = refl
    keeps false b xs h = refl

-- Statuses.
pub texts_cons : (functions : List ItemTree) (n : ℕ) (x : List ℕ) (xs : List (List ℕ)) → used_texts functions n (x ∷ xs) ≡ used_texts functions n (x ∷ []) ++ used_texts functions (suc n) xs
texts_cons functions n x xs = one_or_none (is_used functions (status_name n)) (text_item (status_name n) x) (used_texts functions (suc n) xs)

-- A field of the source by its type and its name.
pub source_typed : (p : PackageTree) (name : List ℕ) (ty : Ty) (c : List ℕ) → c ≡ codes "f_" ++ name → typed_field p ty c ≡ source_field p (record { name = name; ty = ty })
source_typed p name (types.Num width lo hi) c e = ap (typed_field p (types.Num width lo hi)) e
source_typed p name types.Flag c e = ap (typed_field p types.Flag) e
source_typed p name types.Status c e = ap (typed_field p types.Status) e
source_typed p name types.Reader c e = ap (typed_field p types.Reader) e
source_typed p name types.Writer c e = ap (typed_field p types.Writer) e
source_typed p name (types.Slice width) c e = ap (typed_field p (types.Slice width)) e
source_typed p name (types.Array width lo hi count) c e = ap (typed_field p (types.Array width lo hi count)) e
source_typed p name (types.Part s) c e = ap (typed_field p (types.Part s)) e
