-- What the state of the source's machine is in the words of the source's meaning.
use Rattle.std.specs.Prelude.{ℕ, ◌+◌, ◌-◌, Bool, false, ◌&&◌, List, [], ◌∷◌, map, take, Option, None, option_map, option_and_then, slice_get, unwrap_or, nat_eq, if◌then◌else◌}
use Rattle.wf_text.specs.declared.place.Place.{Place}
use Rattle.wf_base.specs.declared.marks.Mark.TheVariants.{Pure}
use Rattle.wf_ast.specs.declared.typed_nodes.TypedNodes.{TypedNodes}
use Rattle.wf_ast.specs.TypedTree.{Site, Block, end}
use Rattle.wf_ast.specs.TypedPackage.{MethodTree, PackageTree, package_of}
use Rattle.wf_ast.specs.Value as values
use Rattle.wf_ast.specs.Value.{Store, Span, Value, State}
use Rattle.wf_bufs.specs.declared.bufs.Bufs.{Bufs}
use Rattle.wf_bufs.specs.HostSeen.{host_of}
use Rattle.wf_meaning.specs.SourceState as state
use Rattle.wf_meaning.specs.SourceState.{Behind, Done, Held, Life, Object, Remaining}
use Rattle.wf_meaning.specs.Remaining.{Items, rest_in}
use Rattle.wf_meaning.specs.World.{Body, World, view}
use Rattle.wf_mean_exprs.specs.declared.values.SliceStore.{SliceStore}
use Rattle.wf_mean_exprs.specs.declared.values.SliceStore.TheVariants as stores
use Rattle.wf_mean_exprs.specs.declared.values.SliceSpan.{SliceSpan}
use Rattle.wf_mean_exprs.specs.declared.values.Slot.{Slot}
use Rattle.wf_mean_exprs.specs.declared.values.Slot.TheVariants as slots
use Rattle.wf_mean_exprs.specs.declared.objects.FieldState.{FieldState}
use Rattle.wf_mean_exprs.specs.declared.objects.FieldState.TheVariants as fields
use Rattle.wf_mean_exprs.specs.declared.objects.LifeState.{LifeState}
use Rattle.wf_mean_exprs.specs.declared.objects.LifeState.TheVariants as lives
use Rattle.wf_mean_exprs.specs.declared.objects.Progress.{Progress}
use Rattle.wf_mean_exprs.specs.declared.objects.Progress.TheVariants as progress
use Rattle.wf_mean_exprs.specs.declared.objects.KeptBody.{KeptBody}
use Rattle.wf_mean_exprs.specs.declared.objects.ObjectState.{ObjectState}
use Rattle.wf_mean_exprs.specs.declared.objects.Frame.{Frame}
use Rattle.wf_mean_exprs.specs.declared.reading.Scene.{Scene}

-- Where the elements of a slice stand.
abbrev pub store_seen : SliceStore → Store
store_seen stores.Nowhere = values.nowhere
store_seen (stores.HostArray a) = values.host_array a
store_seen (stores.FieldArray object field) = values.field_array object field

abbrev pub span_seen : SliceSpan → Span
span_seen s = record { store = store_seen s.store; from = s.from; count = s.end - s.from }

-- What a local or an argument holds.
abbrev pub slot_seen : Slot → Value
slot_seen (slots.Num n) = values.num n
slot_seen (slots.Truth b) = values.truth_value b
slot_seen (slots.Status s) = values.status_number s
slot_seen (slots.Elements s) = values.span (span_seen s)
slot_seen (slots.Buffer k) = values.buffer k

-- What a field holds.
abbrev pub field_seen : FieldState → Held
field_seen (fields.Num n) = state.held_num n
field_seen (fields.Truth b) = state.held_truth b
field_seen (fields.Status s) = state.held_status s
field_seen (fields.Cells cells) = state.held_cells cells.items
field_seen (fields.Part object) = state.held_part object

abbrev pub life_seen : LifeState → Life
life_seen lives.Raw = state.raw
life_seen lives.Ready = state.ready
life_seen lives.Disabled = state.disabled

-- What the first of the remaining statements has done.
abbrev pub done_seen : Progress → Done
done_seen progress.Untouched = state.untouched
done_seen (progress.Bytes bytes count) = state.has_bytes (take count bytes)
done_seen (progress.ToSkip n) = state.to_skip n
done_seen (progress.ToWrite byte) = state.to_write byte
done_seen progress.Yielded = state.has_yielded

abbrev pub same_place : (a b : Place) → Bool
same_place a b = nat_eq a.file b.file && (nat_eq a.line b.line && nat_eq a.col b.col)

-- The points at a place are told from all others: 1 stands for those, and 0 for these.
abbrev pub told_by_place : (at : Place) → Site → ℕ
told_by_place at site = if same_place site.at at then 1 else 0

-- What stands in a block when the point at a place is reached, `behind` following the block.
abbrev pub standing_at : (at : Place) → Block → Behind → Option Items
standing_at at block behind = rest_in (told_by_place at) 1 block behind

-- What remains of a body: what stands at the point whose place is kept.
abbrev pub remaining_in : (body : Block) → KeptBody → Option Remaining
remaining_in body kept =
    option_and_then (λ at. option_map
    (λ items. record { done = done_seen kept.done; block = items.block; behind = items.behind; locals = map slot_seen kept.locals.items })
    (standing_at at body state.stop)) kept.point

-- What remains of the method with the number `m`.
abbrev pub remaining_seen : PackageTree → (m : ℕ) → KeptBody → Option Remaining
remaining_seen p m kept = option_and_then (λ method. remaining_in method.body kept) (slice_get p.methods m)

-- What remains of each method, `m` being the number of the first in the list.
abbrev pub all_remaining : PackageTree → (m : ℕ) → List KeptBody → List (Option Remaining)
all_remaining p m [] = []
all_remaining p m (kept ∷ more) = remaining_seen p m kept ∷ all_remaining p (m + 1) more

-- A struct state.
abbrev pub object_seen : PackageTree → ObjectState → Object
object_seen p o =
    record { life = life_seen o.life; fields = map field_seen o.fields.items; active = o.active; remaining = all_remaining p 0 o.kept.items }

-- What stands for a number that names no method.
abbrev pub no_method : MethodTree
no_method = record { name = []; of = 0; public = false; mark = Pure; args = []; locals = []; gives = None; body = end }

-- The body that runs in a frame.
abbrev pub body_seen : TypedNodes → Frame → Body
body_seen nodes frame =
    record { within = package_of nodes; object = frame.object; method = unwrap_or (slice_get (package_of nodes).methods frame.method.0) no_method; args = map slot_seen frame.args.items }

-- The struct states of a receiver with the host's buffers and byte arrays.
abbrev pub world_seen : TypedNodes → List ObjectState → Bufs → World
world_seen nodes objects host = record { objects = map (object_seen (package_of nodes)) objects; host = host_of host }

-- What the expressions of a body look at.
unfoldable pub sight : TypedNodes → Frame → List ObjectState → Bufs → State
sight nodes frame objects host = view (body_seen nodes frame) (map slot_seen frame.locals.items) (world_seen nodes objects host)

-- What they look at where the machine stands.
abbrev pub seen_from : Scene → State
seen_from scene = sight scene.package.now scene.frame.now scene.objects.now scene.host.now
