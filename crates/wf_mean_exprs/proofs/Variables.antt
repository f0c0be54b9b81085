-- What stands in variables, as the source's meaning sees it.
use Rattle.std.proofs.Common.{◌≡◌, ℕ, zero, suc, ◌-◌, length, List, [], ◌∷◌, map, Option, Some, None, ◌≤◌, refl, sym, ap, ◌∙◌, arith}
use Rattle.std.specs.Prelude.{slice_get, unwrap_or, option_map, option_and_then}
use Rattle.std.proofs.lemmas.Option.{slice_get_past}
use Rattle.wf_text.specs.StatusText.{category_of}
use Rattle.wf_text.specs.declared.categories.Category.TheVariants.{Fine}
use Rattle.wf_ast.specs.TypedTree.{local, field, arg}
use Rattle.wf_ast.specs.Value.{io_buffer, span, nowhere, host_array, field_array}
use Rattle.wf_meaning.specs.World as world
use Rattle.wf_meaning.specs.World.{as_num, as_truth, as_status, as_span, as_buffer, value_held}
use Rattle.wf_mean_exprs.specs.declared.objects.FieldState.{FieldState}
use Rattle.wf_mean_exprs.specs.declared.objects.FieldState.TheVariants as fields
use Rattle.wf_mean_exprs.specs.declared.objects.ObjectState.{ObjectState}
use Rattle.wf_mean_exprs.specs.declared.reading.Scene.{Scene}
use Rattle.wf_mean_exprs.specs.MachineState.{slot_seen, field_seen, object_seen, sight, seen_from}
use Rattle.wf_mean_exprs.specs.Operands.{slot_in_field, cells_in}
use Rattle.wf_ast.specs.TypedPackage.{PackageTree, package_of}
use Rattle.wf_meaning.specs.SourceState.{Object}

get_map : {X Y : Type 0} (f : X → Y) (xs : List X) (i : ℕ) → slice_get (map f xs) i ≡ option_map f (slice_get xs i)
get_map f [] i = refl
get_map f (x ∷ xs) zero = refl
get_map f (x ∷ xs) (suc i) = get_map f xs i

pub local_number : (scene : Scene) (x : ℕ) → (seen_from scene).number_at (local x) ≡ option_and_then as_num (option_map slot_seen (slice_get scene.frame.now.locals.items x))
unfolding sight
local_number scene x = ap (option_and_then as_num) (get_map slot_seen scene.frame.now.locals.items x)

pub arg_number : (scene : Scene) (x : ℕ) → (seen_from scene).number_at (arg x) ≡ option_and_then as_num (option_map slot_seen (slice_get scene.frame.now.args.items x))
unfolding sight
arg_number scene x = ap (option_and_then as_num) (get_map slot_seen scene.frame.now.args.items x)

held_value : (object n : ℕ) (o : Option FieldState) → option_and_then (value_held object n) (option_map field_seen o) ≡ option_map slot_seen (slot_in_field object n o)
held_value object n None = refl
held_value object n (Some (fields.Num m)) = refl
held_value object n (Some (fields.Truth b)) = refl
held_value object n (Some (fields.Status s)) = refl
held_value object n (Some (fields.Cells cells)) = ap (λ count. Some (span (record { store = field_array object n; from = 0; count = count }))) (whole (length cells.items))
  where
    whole : (n : ℕ) → n ≡ n - 0
    whole n = omega arith
held_value object n (Some (fields.Part part)) = refl

in_object : (p : PackageTree) (n : ℕ) (o : Option ObjectState) → option_and_then (λ (x : Object). slice_get x.fields n) (option_map (object_seen p) o) ≡ option_map field_seen (option_and_then (λ (x : ObjectState). slice_get x.fields.items n) o)
in_object p n None = refl
in_object p n (Some o) = get_map field_seen o.fields.items n

pub field_value : (p : PackageTree) (objects : List ObjectState) (object n : ℕ)
    → option_and_then (value_held object n) (option_and_then (λ (x : Object). slice_get x.fields n) (slice_get (map (object_seen p) objects) object))
    ≡ option_map slot_seen (slot_in_field object n (option_and_then (λ (x : ObjectState). slice_get x.fields.items n) (slice_get objects object)))
field_value p objects object n =
    ap (λ o. option_and_then (value_held object n) (option_and_then (λ (x : Object). slice_get x.fields n) o)) (get_map (object_seen p) objects object)
    ∙ ap (option_and_then (value_held object n)) (in_object p n (slice_get objects object))
    ∙ held_value object n (option_and_then (λ (x : ObjectState). slice_get x.fields.items n) (slice_get objects object))

pub field_number : (scene : Scene) (x : ℕ) → (seen_from scene).number_at (field x)
    ≡ option_and_then as_num (option_map slot_seen (slot_in_field scene.frame.now.object x (option_and_then (λ (o : ObjectState). slice_get o.fields.items x) (slice_get scene.objects.now scene.frame.now.object))))
unfolding sight
field_number scene x = ap (option_and_then as_num) (field_value (package_of scene.package.now) scene.objects.now scene.frame.now.object x)

-- Slices.
pub local_span : (scene : Scene) (x : ℕ) → (seen_from scene).span_at (local x) ≡ option_and_then as_span (option_map slot_seen (slice_get scene.frame.now.locals.items x))
unfolding sight
local_span scene x = ap (option_and_then as_span) (get_map slot_seen scene.frame.now.locals.items x)

pub arg_span : (scene : Scene) (x : ℕ) → (seen_from scene).span_at (arg x) ≡ option_and_then as_span (option_map slot_seen (slice_get scene.frame.now.args.items x))
unfolding sight
arg_span scene x = ap (option_and_then as_span) (get_map slot_seen scene.frame.now.args.items x)

pub field_span : (scene : Scene) (x : ℕ) → (seen_from scene).span_at (field x)
    ≡ option_and_then as_span (option_map slot_seen (slot_in_field scene.frame.now.object x (option_and_then (λ (o : ObjectState). slice_get o.fields.items x) (slice_get scene.objects.now scene.frame.now.object))))
unfolding sight
field_span scene x = ap (option_and_then as_span) (field_value (package_of scene.package.now) scene.objects.now scene.frame.now.object x)

-- Elements.
pub no_cell : (scene : Scene) (k : ℕ) → slice_get ((seen_from scene).cells_at nowhere) k ≡ None
unfolding sight
no_cell scene k = refl

pub host_cells : (scene : Scene) (a : ℕ) → (seen_from scene).cells_at (host_array a) ≡ unwrap_or (slice_get scene.host.now.arrays a) []
unfolding sight
host_cells scene a = refl

held_cells : (o : Option FieldState) → unwrap_or (option_map world.cells_held (option_map field_seen o)) [] ≡ cells_in o
held_cells None = refl
held_cells (Some (fields.Num m)) = refl
held_cells (Some (fields.Truth b)) = refl
held_cells (Some (fields.Status s)) = refl
held_cells (Some (fields.Cells cells)) = refl
held_cells (Some (fields.Part part)) = refl

pub field_cells : (scene : Scene) (object n : ℕ) → (seen_from scene).cells_at (field_array object n)
    ≡ cells_in (option_and_then (λ (o : ObjectState). slice_get o.fields.items n) (slice_get scene.objects.now object))
unfolding sight
field_cells scene object n =
    let p = package_of scene.package.now in
    ap (λ o. unwrap_or (option_map world.cells_held (option_and_then (λ (x : Object). slice_get x.fields n) o)) []) (get_map (object_seen p) scene.objects.now object)
    ∙ ap (λ o. unwrap_or (option_map world.cells_held o) []) (in_object p n (slice_get scene.objects.now object))
    ∙ held_cells (option_and_then (λ (x : ObjectState). slice_get x.fields.items n) (slice_get scene.objects.now object))

-- Buffers.
pub arg_buffer : (scene : Scene) (x : ℕ) → io_buffer (seen_from scene) x ≡ option_and_then (λ k. slice_get scene.host.now.bufs k) (option_and_then as_buffer (option_map slot_seen (slice_get scene.frame.now.args.items x)))
unfolding sight
arg_buffer scene x = ap (λ o. option_and_then (λ k. slice_get scene.host.now.bufs k) (option_and_then as_buffer o)) (get_map slot_seen scene.frame.now.args.items x)

pub local_flag : (scene : Scene) (x : ℕ) → (seen_from scene).flag_at (local x) ≡ option_and_then as_truth (option_map slot_seen (slice_get scene.frame.now.locals.items x))
unfolding sight
local_flag scene x = ap (option_and_then as_truth) (get_map slot_seen scene.frame.now.locals.items x)

pub arg_flag : (scene : Scene) (x : ℕ) → (seen_from scene).flag_at (arg x) ≡ option_and_then as_truth (option_map slot_seen (slice_get scene.frame.now.args.items x))
unfolding sight
arg_flag scene x = ap (option_and_then as_truth) (get_map slot_seen scene.frame.now.args.items x)

pub field_flag : (scene : Scene) (x : ℕ) → (seen_from scene).flag_at (field x)
    ≡ option_and_then as_truth (option_map slot_seen (slot_in_field scene.frame.now.object x (option_and_then (λ (o : ObjectState). slice_get o.fields.items x) (slice_get scene.objects.now scene.frame.now.object))))
unfolding sight
field_flag scene x = ap (option_and_then as_truth) (field_value (package_of scene.package.now) scene.objects.now scene.frame.now.object x)

pub local_status : (scene : Scene) (x : ℕ) → (seen_from scene).status_at (local x) ≡ option_and_then as_status (option_map slot_seen (slice_get scene.frame.now.locals.items x))
unfolding sight
local_status scene x = ap (option_and_then as_status) (get_map slot_seen scene.frame.now.locals.items x)

pub field_status : (scene : Scene) (x : ℕ) → (seen_from scene).status_at (field x)
    ≡ option_and_then as_status (option_map slot_seen (slot_in_field scene.frame.now.object x (option_and_then (λ (o : ObjectState). slice_get o.fields.items x) (slice_get scene.objects.now scene.frame.now.object))))
unfolding sight
field_status scene x = ap (option_and_then as_status) (field_value (package_of scene.package.now) scene.objects.now scene.frame.now.object x)

-- Texts of statuses.
pub text_at : (scene : Scene) (n : ℕ) → (seen_from scene).status_text n ≡ unwrap_or (slice_get scene.package.now.statuses n) []
unfolding sight package_of
text_at scene n = refl

pub no_text : (scene : Scene) (n : ℕ) → length scene.package.now.statuses ≤ n → Fine ≡ category_of ((seen_from scene).status_text n)
no_text scene n h = ap category_of (sym (text_at scene n ∙ ap (λ o. unwrap_or o []) (slice_get_past scene.package.now.statuses n h)))

pub arg_number_of_buffer : (scene : Scene) (x : ℕ) → (seen_from scene).buffer_number x ≡ option_and_then as_buffer (option_map slot_seen (slice_get scene.frame.now.args.items x))
unfolding sight
arg_number_of_buffer scene x = ap (option_and_then as_buffer) (get_map slot_seen scene.frame.now.args.items x)
