-- The functions of a unit, item by item.
use Rattle.std.proofs.Common.{◌≡◌, ℕ, ◌+◌, ◌≤◌, Bool, true, false, List, [], ◌∷◌, ◌++◌, length, map, take, drop, Option, Some, sym, ap, ◌∙◌, refl, append_assoc}
use Rattle.std.specs.Prelude.{reverse, slice_get}
use Rattle.std.proofs.lemmas.List.{append-nil, reverse-append, take-append-drop}
use Rattle.c_text.specs.declared.kinds.Linkage.{Linkage}
use Rattle.c_text.specs.CTree.{TypeTree, ParamTree, LocalTree, Code, ItemTree, function_item}
use Rattle.c_text.specs.CNodes.{Nodes, unit_tree}
use Rattle.c_meaning.specs.declared.cells.CellType.{CellType}
use Rattle.c_meaning.specs.CTypes.{Function, functions_of}
use Rattle.c_form.proofs.ItemLemmas.{drop_at}
use Rattle.c_form_exprs.proofs.GrowLemmas.{functions_append, take_one_more}
use Rattle.c_step_frames.specs.Frames.{FrameView, param_type}
use Rattle.c_step_load_exprs.proofs.PlaceLemmas.{all_items}
use Rattle.c_step_load.specs.Loading.{program_in, functions_before, local_types_by, frame_by, frames_by}

-- An item that isn't a function.
pub no_function : (nodes : Nodes) (i : ℕ) (item : ItemTree) → slice_get (unit_tree nodes) i ≡ Some item → functions_of (item ∷ []) ≡ [] → functions_before nodes (i + 1) ≡ functions_before nodes i
no_function nodes i item is none = ap reverse (ap functions_of (take_one_more (unit_tree nodes) i item is) ∙ (functions_append (take i (unit_tree nodes)) (item ∷ []) ∙ (ap (λ (fs : List Function). functions_of (take i (unit_tree nodes)) ++ fs) none ∙ append-nil (functions_of (take i (unit_tree nodes))))))

pub no_frame : (nodes : Nodes) (whole : Bool) (i : ℕ) (item : ItemTree) (frames : List FrameView) → slice_get (unit_tree nodes) i ≡ Some item → functions_of (item ∷ []) ≡ [] → frames ≡ frames_by whole (functions_before nodes i) → frames ≡ frames_by whole (functions_before nodes (i + 1))
no_frame nodes whole i item frames is none so_far = so_far ∙ ap (frames_by whole) (sym (no_function nodes i item is none))

pub all_functions : (nodes : Nodes) (i : ℕ) → length nodes.items ≤ i → functions_before nodes i ≡ (program_in nodes).functions
all_functions nodes i past = ap (λ (items : List ItemTree). reverse (functions_of items)) (all_items nodes i past)

-- The frame of a function.
pub frame_is : (whole : Bool) (f : Function) (params locals : List CellType) → params ≡ map param_type f.params → locals ≡ local_types_by whole f.locals → record { params = params; locals = locals; rests = true } ≡ frame_by whole f
frame_is true f params locals p l = rw (p, l) refl
frame_is false f params locals p l = rw (p, l) refl

frames_more : (whole : Bool) (f : Function) (fs : List Function) → frames_by whole (f ∷ fs) ≡ frames_by whole fs ++ frame_by whole f ∷ []
frames_more true f fs = refl
frames_more false f fs = refl

module _ (nodes : Nodes) (linkage : Linkage) (type : Option TypeTree) (name : List ℕ) (params : List ParamTree) (locals : List LocalTree) (body : Code) where
  abbrev pub It : ItemTree
  It = function_item linkage type name params locals body

  abbrev pub Its : Function
  Its = record { linkage = linkage; result_type = type; name = name; params = params; locals = locals; body = body }

  pub function_next : (i : ℕ) → slice_get (unit_tree nodes) i ≡ Some It → functions_before nodes (i + 1) ≡ Its ∷ functions_before nodes i
  function_next i is =
      ap (λ (items : List ItemTree). reverse (functions_of items)) (take_one_more (unit_tree nodes) i It is)
      ∙ (ap reverse (functions_append (take i (unit_tree nodes)) (It ∷ []))
      ∙ reverse-append (functions_of (take i (unit_tree nodes))) (Its ∷ []))

  parted : (i : ℕ) → slice_get (unit_tree nodes) i ≡ Some It → functions_of (unit_tree nodes) ≡ functions_of (take i (unit_tree nodes)) ++ Its ∷ functions_of (drop (i + 1) (unit_tree nodes))
  parted i is =
      ap functions_of (sym (take-append-drop i (unit_tree nodes)))
      ∙ (functions_append (take i (unit_tree nodes)) (drop i (unit_tree nodes))
      ∙ ap (λ (items : List ItemTree). functions_of (take i (unit_tree nodes)) ++ functions_of items) (drop_at (unit_tree nodes) i It is))

  pub function_among : (i : ℕ) → slice_get (unit_tree nodes) i ≡ Some It → (program_in nodes).functions ≡ reverse (functions_of (drop (i + 1) (unit_tree nodes))) ++ Its ∷ functions_before nodes i
  function_among i is =
      ap reverse (parted i is)
      ∙ (reverse-append (functions_of (take i (unit_tree nodes))) (Its ∷ functions_of (drop (i + 1) (unit_tree nodes)))
      ∙ (ap (λ (fs : List Function). fs ++ functions_before nodes i) (reverse-append (Its ∷ []) (functions_of (drop (i + 1) (unit_tree nodes))))
      ∙ append_assoc (reverse (functions_of (drop (i + 1) (unit_tree nodes)))) (Its ∷ []) (functions_before nodes i)))

  pub frame_added : (whole : Bool) (i : ℕ) (old new : List FrameView) (it : FrameView) → slice_get (unit_tree nodes) i ≡ Some It → it ≡ frame_by whole Its → new ≡ old ++ it ∷ [] → old ≡ frames_by whole (functions_before nodes i) → new ≡ frames_by whole (functions_before nodes (i + 1))
  frame_added whole i old new it is made more so_far =
      more ∙ (ap (λ (x : FrameView). old ++ x ∷ []) made ∙ (ap (λ (xs : List FrameView). xs ++ frame_by whole Its ∷ []) so_far
      ∙ (sym (frames_more whole Its (functions_before nodes i)) ∙ ap (frames_by whole) (sym (function_next i is)))))

-- One more of a list of which the rest is left.
pub one_more : {A : Type 0} (old new rest all total : List A) (x y : A) → new ≡ old ++ x ∷ [] → x ≡ y → all ≡ y ∷ rest → old ++ all ≡ total → new ++ rest ≡ total
one_more {A} old new rest all total x y put same here so_far =
    ap (λ (xs : List A). xs ++ rest) put ∙ (append_assoc old (x ∷ []) rest ∙ (ap (λ (z : A). old ++ z ∷ rest) same ∙ (ap (λ (xs : List A). old ++ xs) (sym here) ∙ so_far)))
