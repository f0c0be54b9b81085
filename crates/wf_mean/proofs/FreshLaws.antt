-- New struct states, and those that an init leaves.
use Rattle.std.proofs.Common.{◌≡◌, ℕ, zero, suc, ◌+◌, ◌≤◌, Bool, true, false, List, [], ◌∷◌, ◌++◌, length, map, Option, Some, None, refl, sym, ap, ◌∙◌, arith}
use Rattle.std.specs.Prelude.{All, replicate, slice_get, option_map, option_and_then, unwrap_or}
use Rattle.std.proofs.lemmas.Option.{slice_get-map}
use Rattle.std.proofs.lemmas.List.{length-append, length-map}
use Rattle.std.proofs.lemmas.List.Elements.{All-head, All-tail}
use Rattle.wf_ast.specs.declared.declarations.Method.{Method}
use Rattle.wf_ast.specs.declared.types.Ty.{Ty}
use Rattle.wf_ast.specs.declared.typed_code.Block.{Block}
use Rattle.wf_ast.specs.declared.typed_nodes.TypedNodes.{TypedNodes}
use Rattle.wf_ast.specs.TypedInvariant.{IsTyped}
use Rattle.wf_ast.specs.declared.declarations.Struct.{Struct}
use Rattle.wf_ast.specs.TypedPackage.{MethodTree, PackageTree, StructTree, Variable, methods_of, package_of, struct_of, variable_of}
use Rattle.wf_meaning.specs.SourceState.{Held, Object, Remaining, fields_of, cleared, cleared_object, fresh_receiver, raw, ready}
use Rattle.wf_ast.specs.declared.declarations.Var.{Var}
use Rattle.wf_mean_exprs.specs.declared.objects.FieldState.{FieldState}
use Rattle.wf_mean_exprs.specs.declared.objects.KeptBody.{KeptBody}
use Rattle.wf_mean_exprs.specs.declared.objects.ObjectState.{ObjectState}
use Rattle.wf_mean_exprs.specs.MachineState.{all_remaining, field_seen, object_seen, remaining_in, remaining_seen}
use Rattle.wf_mean_runs.specs.Frames.{local_counts}
use Rattle.wf_mean.specs.Machines.{objects_seen}
use Rattle.wf_mean.specs.Sizes.{field_types, raw_with, states_of}

none-of : (p : PackageTree) (m : ℕ) (k : KeptBody) → k.point ≡ None → remaining_seen p m k ≡ None
none-of p m k e = by (slice_get p.methods m)
  where
    by : (o : Option MethodTree) → option_and_then (λ (method : MethodTree). remaining_in method.body k) o ≡ None
    by None = refl
    by (Some method) = rw e refl

-- Nothing remains of methods of which no point is kept.
pub nothing-remains : (p : PackageTree) (n : ℕ) (kept : List KeptBody) → All (λ k. k.point ≡ None) kept → all_remaining p n kept ≡ replicate (length kept) None
nothing-remains p n [] h = refl
nothing-remains p n (k ∷ kept) h = ap (λ o. o ∷ all_remaining p (n + 1) kept) (none-of p n k (All-head (λ (x : KeptBody). x.point ≡ None) k kept h)) ∙ ap (λ more. None ∷ more) (nothing-remains p (n + 1) kept (All-tail (λ (x : KeptBody). x.point ≡ None) k kept h))

pub remaining-long : (p : PackageTree) (n : ℕ) (kept : List KeptBody) → length (all_remaining p n kept) ≡ length kept
remaining-long p n [] = refl
remaining-long p n (k ∷ kept) = ap suc (remaining-long p (n + 1) kept)

map-long : {X A : Type 0} (f : X → A) (xs : List X) → length (map f xs) ≡ length xs
map-long f [] = refl
map-long f (x ∷ xs) = ap suc (map-long f xs)

methods-long : (nodes : TypedNodes) (ms : List Method) (bodies : List Block) → length bodies ≡ length ms → length (methods_of nodes ms bodies) ≡ length ms
methods-long nodes [] bodies e = refl
methods-long nodes (m ∷ ms) [] e = absurd (omega (arith, e))
methods-long nodes (m ∷ ms) (body ∷ bodies) e = ap suc (methods-long nodes ms bodies (omega (arith, e)))

pub methods-count : (nodes : TypedNodes) → IsTyped nodes → length (package_of nodes).methods ≡ length nodes.methods
unfolding package_of
methods-count nodes typed = methods-long nodes nodes.methods nodes.bodies typed.bodied

-- As many as the package has methods.
pub kept-for-all : (nodes : TypedNodes) → IsTyped nodes → (p : PackageTree) (kept : List KeptBody) → All (λ k. k.point ≡ None) kept → map (λ (k : KeptBody). length k.locals.items) kept ≡ local_counts nodes
    → all_remaining p 0 kept ≡ replicate (length (package_of nodes).methods) None
unfolding package_of
kept-for-all nodes typed p kept none counts =
    let long : length kept ≡ length nodes.methods = sym (map-long _ kept) ∙ ap (λ (xs : List ℕ). length xs) counts ∙ map-long _ nodes.methods in
    let same : length kept ≡ length (methods_of nodes nodes.methods nodes.bodies) = long ∙ sym (methods-long nodes nodes.methods nodes.bodies typed.bodied) in
    nothing-remains p 0 kept none ∙ ap (λ n. replicate n None) same

-- The fields of a struct.
pub none-past : {X : Type 0} (xs : List X) (i : ℕ) → length xs ≤ i → slice_get xs i ≡ None
none-past [] i h = refl
none-past (x ∷ xs) zero h = absurd (omega (arith, h))
none-past (x ∷ xs) (suc i) h = none-past xs i (omega (arith, h))

fields-known : (nodes : TypedNodes) (s : ℕ) (it : Struct) → slice_get nodes.structs s ≡ Some it → map (variable_of nodes) it.fields ≡ fields_of (package_of nodes) s
unfolding package_of
fields-known nodes s it at = sym (ap (λ o. unwrap_or (option_map (λ (x : StructTree). x.fields) o) []) (slice_get-map (struct_of nodes) nodes.structs s ∙ ap (option_map (struct_of nodes)) at))

fields-none : (nodes : TypedNodes) (s : ℕ) → length nodes.structs ≤ s → [] ≡ fields_of (package_of nodes) s
unfolding package_of
fields-none nodes s h = sym (ap (λ o. unwrap_or (option_map (λ (x : StructTree). x.fields) o) []) (slice_get-map (struct_of nodes) nodes.structs s ∙ ap (option_map (struct_of nodes)) (none-past nodes.structs s h)))

pub types-known : (nodes : TypedNodes) (s : ℕ) (it : Struct) (declared : List Var) → declared ≡ it.fields → slice_get nodes.structs s ≡ Some it → map (λ x. x.ty) declared ≡ field_types (package_of nodes) s
types-known nodes s it declared is at = ap (map (λ (x : Var). x.ty)) is ∙ types-same nodes it.fields ∙ ap (map (λ (x : Variable). x.ty)) (fields-known nodes s it at)
  where
    types-same : (nodes : TypedNodes) (xs : List Var) → map (λ (x : Var). x.ty) xs ≡ map (λ (x : Variable). x.ty) (map (variable_of nodes) xs)
    types-same nodes [] = refl
    types-same nodes (x ∷ xs) = ap (λ (tys : List Ty). x.ty ∷ tys) (types-same nodes xs)

pub types-none : (nodes : TypedNodes) (s : ℕ) → length nodes.structs ≤ s → [] ≡ field_types (package_of nodes) s
types-none nodes s h = ap (map (λ (x : Variable). x.ty)) (fields-none nodes s h)

-- And after an init.
pub cleared-remaining : (p : PackageTree) (old new : List KeptBody) → All (λ k. k.point ≡ None) new → map (λ (k : KeptBody). length k.locals.items) new ≡ map (λ (k : KeptBody). length k.locals.items) old
    → all_remaining p 0 new ≡ replicate (length (all_remaining p 0 old)) None
cleared-remaining p old new none counts =
    let long : length new ≡ length old = sym (map-long _ new) ∙ ap (λ (xs : List ℕ). length xs) counts ∙ map-long _ old in
    nothing-remains p 0 new none ∙ ap (λ n. replicate n None) (long ∙ sym (remaining-long p 0 old))

-- A struct state that was never made ready.
pub raw-seen : (nodes : TypedNodes) → IsTyped nodes → (fields : List Held) (kept : List KeptBody) → All (λ k. k.point ≡ None) kept → map (λ (k : KeptBody). length k.locals.items) kept ≡ local_counts nodes
    → record { life = raw; fields = fields; active = None; remaining = all_remaining (package_of nodes) 0 kept } ≡ raw_with (package_of nodes) fields
raw-seen nodes typed fields kept none counts =
    ap (λ (remaining : List (Option Remaining)). record { life = raw; fields = fields; active = None; remaining = remaining }) (kept-for-all nodes typed (package_of nodes) kept none counts)

pub seen-long : {X A : Type 0} (v : X → A) (old new : List X) (more : List A) → map v new ≡ map v old ++ more → length new ≡ length old + length more
seen-long v old new more e = sym (length-map new v) ∙ ap (λ xs. length xs) e ∙ length-append (map v old) more ∙ ap (λ n. n + length more) (length-map old v)

-- A new receiver.
pub fresh-seen : (p : PackageTree) (null : Bool) (s : ℕ) (first objects : List ObjectState) → null ≡ false → first ≡ [] → map (object_seen p) objects ≡ map (object_seen p) first ++ states_of p s (length first)
    → objects_seen p null objects ≡ fresh_receiver p null s
fresh-seen p true s first objects live none e = absurd (cc (live))
fresh-seen p false s first objects live none e =
    ap (λ (os : List Object). Some os) (e ∙ ap (λ (os : List ObjectState). map (object_seen p) os ++ states_of p s (length os)) none)

-- A struct state that an init makes ready.
abbrev ready_with : List Held → List (Option Remaining) → Object
ready_with fields remaining = record { life = ready; fields = fields; active = None; remaining = remaining }

pub cleared-seen : (p : PackageTree) (o : ObjectState) (fields fields' : List FieldState) (kept kept' : List KeptBody) → fields ≡ fields' → kept ≡ kept' → map field_seen fields' ≡ map cleared (map field_seen o.fields.items) → All (λ k. k.point ≡ None) kept'
    → map (λ (k : KeptBody). length k.locals.items) kept' ≡ map (λ (k : KeptBody). length k.locals.items) o.kept.items → ready_with (map field_seen fields) (all_remaining p 0 kept) ≡ cleared_object (object_seen p o)
cleared-seen p o fields fields' kept kept' same other zeros none counts =
    ap (λ held. ready_with held (all_remaining p 0 kept)) (ap (map field_seen) same ∙ zeros) ∙ ap (ready_with (map cleared (map field_seen o.fields.items))) (ap (all_remaining p 0) other ∙ cleared-remaining p o.kept.items kept' none counts)
