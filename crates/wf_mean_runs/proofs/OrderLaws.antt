-- The frames below follow the package's order, in which each method's body calls those before it.
use Rattle.std.proofs.Common.{◌≡◌, ℕ, zero, suc, ◌<◌, ◌≤◌, Bool, true, false, List, [], ◌∷◌, ◌++◌, length, map, take, Some, None, nat_eq, refl, sym, ap, ◌∙◌, arith}
use Rattle.std.specs.Prelude.{reverse, slice_get, if◌then◌else◌}
use Rattle.std.proofs.lemmas.Bool.Decides.{nat_tests}
use mathlib.Core.List.{reverse_aux}
use Rattle.turns.specs.Run.{Lost}
use Rattle.wf_ast.specs.declared.typed_nodes.TypedNodes.{TypedNodes}
use Rattle.wf_ast.specs.TypedPackage.{package_of}
use Rattle.wf_ast.specs.Value.{Value}
use Rattle.wf_meaning.specs.World.{World}
use Rattle.wf_meaning.specs.SourceStep.{Call}
use Rattle.wf_meaning.specs.SourceCall.{bodies, run_if}
use Rattle.wf_mean_exprs.specs.declared.objects.Frame.{Frame}
use Rattle.wf_mean_flows.specs.Flows.{calls_below}
use Rattle.wf_mean_runs.specs.Calls.{frame_of}
use Rattle.wf_mean_runs.specs.Frames.{Sizes, sizes_for, sizes_of}

pub item_there : {X : Type 0} (xs : List X) (i : ℕ) → i < length xs → (x : X) × (slice_get xs i ≡ Some x)
item_there [] i h = absurd (omega (arith, h))
item_there (x ∷ xs) zero h = (x, refl)
item_there (x ∷ xs) (suc i) h = item_there xs i (omega (arith, h))

take_more : {X : Type 0} (xs : List X) (i : ℕ) (x : X) → slice_get xs i ≡ Some x → take (suc i) xs ≡ take i xs ++ x ∷ []
take_more [] i x h = absurd (cc (h))
take_more (y ∷ ys) zero x h = let q : y ≡ x = cc (h) in ap (λ z. z ∷ []) q
take_more (y ∷ ys) (suc i) x h = ap (λ zs. y ∷ zs) (take_more ys i x h)

reverse_more : {X : Type 0} (xs : List X) (x : X) → reverse (xs ++ x ∷ []) ≡ x ∷ reverse xs
reverse_more {X} xs x = onto xs []
  where
    onto : (ys acc : List X) → reverse_aux (ys ++ x ∷ []) acc ≡ x ∷ reverse_aux ys acc
    onto [] acc = refl
    onto (y ∷ ys) acc = onto ys (y ∷ acc)

some_is : {X : Type 0} (x y : X) → Some x ≡ Some y → x ≡ y
some_is x y h = cc (h)

module _ (nodes : TypedNodes) where
  calls_more : (level x : ℕ) → slice_get nodes.order level ≡ Some x → (call : Call) (n : ℕ) (w : World)
      → calls_below nodes (suc level) call n w ≡ (if nat_eq x call.method then run_if (package_of nodes) (calls_below nodes level) (slice_get (package_of nodes).methods x) call n w else calls_below nodes level call n w)
  unfolding calls_below bodies
  calls_more level x e call n w = ap (λ ms. bodies (package_of nodes) ms call n w) (ap reverse (take_more nodes.order level x e) ∙ reverse_more (take level nodes.order) x)

  module _ (m object : ℕ) (args : List Value) (n : ℕ) (w : World) where
    abbrev the_call : Call
    the_call = record { object = object; method = m; args = args }

    -- The body of a method runs where its frame is.
    pub found_frame : (level at : ℕ) → level ≤ length nodes.order → frame_of nodes level m ≡ Some at
        → calls_below nodes level (record { object = object; method = m; args = args }) n w ≡ run_if (package_of nodes) (calls_below nodes at) (slice_get (package_of nodes).methods m) (record { object = object; method = m; args = args }) n w
    found_frame zero at h e = absurd (cc (e))
    found_frame (suc level) at h e =
        let it = item_there nodes.order level (omega (arith, h)) in
        calls_more level it.0 it.1 the_call n w ∙ by_test it.0 (nat_eq it.0 m) refl (rw it.1 at e) (found_frame level at (omega (arith, h)))
      where
        by_test : (x : ℕ) (t : Bool) → nat_eq x m ≡ t → (if nat_eq x m then Some level else frame_of nodes level m) ≡ Some at
            → (frame_of nodes level m ≡ Some at → calls_below nodes level the_call n w ≡ run_if (package_of nodes) (calls_below nodes at) (slice_get (package_of nodes).methods m) the_call n w)
            → (if nat_eq x m then run_if (package_of nodes) (calls_below nodes level) (slice_get (package_of nodes).methods x) the_call n w else calls_below nodes level the_call n w) ≡ run_if (package_of nodes) (calls_below nodes at) (slice_get (package_of nodes).methods m) the_call n w
        by_test x true q e more =
            let same : x ≡ m = grind (arith, nat_tests, q) in
            let here : level ≡ at = some_is level at (rw q at e) in
            rw q (ap (λ y. run_if (package_of nodes) (calls_below nodes level) (slice_get (package_of nodes).methods y) the_call n w) same ∙ ap (λ l. run_if (package_of nodes) (calls_below nodes l) (slice_get (package_of nodes).methods m) the_call n w) here)
        by_test x false q e more = rw q (more (rw q at e))

    -- A method without a frame can't be called.
    pub no_frame : (level : ℕ) → level ≤ length nodes.order → frame_of nodes level m ≡ None → calls_below nodes level (record { object = object; method = m; args = args }) n w ≡ Lost
    unfolding calls_below bodies
    no_frame zero h e = refl
    no_frame (suc level) h e =
        let it = item_there nodes.order level (omega (arith, h)) in
        calls_more level it.0 it.1 the_call n w ∙ by_test it.0 (nat_eq it.0 m) refl (rw it.1 at e) (no_frame level (omega (arith, h)))
      where
        by_test : (x : ℕ) (t : Bool) → nat_eq x m ≡ t → (if nat_eq x m then Some level else frame_of nodes level m) ≡ None
            → (frame_of nodes level m ≡ None → calls_below nodes level the_call n w ≡ Lost)
            → (if nat_eq x m then run_if (package_of nodes) (calls_below nodes level) (slice_get (package_of nodes).methods x) the_call n w else calls_below nodes level the_call n w) ≡ Lost
        by_test x true q e more = absurd (cc (rw q at e))
        by_test x false q e more = rw q (more (rw q at e))

  -- The frame is that of the method.
  pub frame_is : (m level at : ℕ) → level ≤ length nodes.order → frame_of nodes level m ≡ Some at → slice_get nodes.order at ≡ Some m
  frame_is m zero at h e = absurd (cc (e))
  frame_is m (suc level) at h e =
      let it = item_there nodes.order level (omega (arith, h)) in
      by_test it.0 it.1 (nat_eq it.0 m) refl (rw it.1 at e) (frame_is m level at (omega (arith, h)))
    where
      by_test : (x : ℕ) → slice_get nodes.order level ≡ Some x → (t : Bool) → nat_eq x m ≡ t → (if nat_eq x m then Some level else frame_of nodes level m) ≡ Some at
          → (frame_of nodes level m ≡ Some at → slice_get nodes.order at ≡ Some m) → slice_get nodes.order at ≡ Some m
      by_test x is true q e more =
          let same : x ≡ m = grind (arith, nat_tests, q) in
          let here : level ≡ at = some_is level at (rw q at e) in
          ap (slice_get nodes.order) (sym here) ∙ is ∙ ap Some same
      by_test x is false q e more = more (rw q at e)

-- A frame has the sizes of its method.
sized : (xs : List Frame) (size : ℕ → Sizes) (ys : List ℕ) (n i : ℕ) (f : Frame) (m : ℕ) → map sizes_of xs ≡ map size (take n ys) → i < n → slice_get xs i ≡ Some f → slice_get ys i ≡ Some m → sizes_of f ≡ size m
sized [] size ys n i f m e l h k = absurd (cc (h))
sized (x ∷ xs) size [] n i f m e l h k = absurd (cc (k))
sized (x ∷ xs) size (y ∷ ys) zero i f m e l h k = absurd (omega (arith, l))
sized (x ∷ xs) size (y ∷ ys) (suc n) zero f m e l h k =
    let p : x ≡ f = cc (h) in
    let q : y ≡ m = cc (k) in
    let first : sizes_of x ≡ size y = cc (e) in
    ap sizes_of (sym p) ∙ first ∙ ap size q
sized (x ∷ xs) size (y ∷ ys) (suc n) (suc i) f m e l h k =
    let rest : map sizes_of xs ≡ map size (take n ys) = cc (e) in
    sized xs size ys n i f m rest (omega (arith, l)) h k

pub frame_sizes : (nodes : TypedNodes) (below : List Frame) (at m : ℕ) (f : Frame) → map sizes_of below ≡ map (sizes_for nodes) (take (length below) nodes.order) → at < length below → slice_get below at ≡ Some f → slice_get nodes.order at ≡ Some m → sizes_of f ≡ sizes_for nodes m
frame_sizes nodes below at m f e l h k = sized below (sizes_for nodes) nodes.order (length below) at f m e l h k
