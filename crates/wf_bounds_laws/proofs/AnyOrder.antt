-- What the rules of facts and of points refuse of a package doesn't depend on the orders in which its methods and its structs are told.
use Rattle.std.proofs.Common.{◌≡◌, ℕ, suc, List, [], ◌∷◌, None, Some, Result, Ok, Err, refl, sym, ap, ◌∙◌}
use Rattle.wf_text.specs.declared.place.Place.{Place}
use Rattle.wf_text.specs.declared.rules.Refusal.{Refusal}
use Rattle.wf_ast.specs.TypedTree.{Simple, assign, await, perform, invoke, break_from, continue_in, give_back, yield, claim, Site, Head}
use Rattle.wf_ast.specs.TypedPackage.{StructTree, MethodTree, PackageTree}
use Rattle.wf_facts_exprs.specs.Claims.{Claim}
use Rattle.wf_facts_exprs.specs.Demands.{or_else}
use Rattle.wf_typed_tree.specs.ElaboratedPackage.{typed_package}
use Rattle.wf_bounds_stmts.specs.Statements.{Form, single, branches, repeated, Body, nothing_more, statement, Blocks, no_block, block, body_of}
use Rattle.wf_bounds_stmts.specs.FactRules.{Known, Around, inside, single_refusal, statement_refusal, fronts, behind, ends_refusal, unless, and_then, where_reached, through_body, through_blocks}
use Rattle.wf_bounds_stmts.specs.MethodRules.{zero_facts, through_method, refusal_in, methods_refusal}
use Rattle.wf_bounds_laws.specs.BoundsRules.{name_of_local, bounds_refusal}
use Rattle.wf_bounds_laws.specs.BoundsLaws.{BoundsIgnoreOrder, PointsIgnoreOrder}

-- Results that go on alike.
next-same : {X Y : Type 0} (r : Result X Refusal) (f g : X → Result Y Refusal) → ((x : X) → f x ≡ g x) → and_then r f ≡ and_then r g
next-same (Ok x) f g h = h x
next-same (Err refusal) f g h = refl

then-same : {X Y : Type 0} (a b : Result X Refusal) (f g : X → Result Y Refusal) → a ≡ b → ((x : X) → f x ≡ g x) → and_then a f ≡ and_then b g
then-same a b f g e h = ap (λ r. and_then r f) e ∙ next-same b f g h

reached-same : (known : Known) (f g : List Claim → Result Known Refusal) → ((fs : List Claim) → f fs ≡ g fs) → where_reached known f ≡ where_reached known g
reached-same None f g h = refl
reached-same (Some fs) f g h = h fs

-- Packages of the same methods.
module _ (name : List ℕ) (statuses : List (List ℕ)) (structs : List StructTree) (methods : List MethodTree) (order other struct_order struct_other : List ℕ) where
  abbrev one : PackageTree
  one = record { package_name = name; statuses = statuses; structs = structs; methods = methods; order = order; struct_order = struct_order }

  abbrev two : PackageTree
  two = record { package_name = name; statuses = statuses; structs = structs; methods = methods; order = other; struct_order = struct_other }

  module _ (m : MethodTree) where
    abbrev in_one : List (ℕ × Head) → Around
    in_one loops = record { context = record { within = one; method = m }; loops = loops }

    abbrev in_two : List (ℕ × Head) → Around
    in_two loops = record { context = record { within = two; method = m }; loops = loops }

    single-same : (loops : List (ℕ × Head)) (fs : List Claim) (site : Site) (s : Simple) → single_refusal (in_one loops) fs site s ≡ single_refusal (in_two loops) fs site s
    single-same loops fs site (assign target op v) = refl
    single-same loops fs site (await at target io_arg call) = refl
    single-same loops fs site (perform at target call) = refl
    single-same loops fs site (invoke at target keep mark called vs) = refl
    single-same loops fs site (break_from w) = refl
    single-same loops fs site (continue_in w) = refl
    single-same loops fs site (give_back v) = refl
    single-same loops fs site (yield status) = refl
    single-same loops fs site (claim goal by) = refl

    own-same : (loops : List (ℕ × Head)) (fs : List Claim) (site : Site) (form : Form) → statement_refusal (in_one loops) fs site form ≡ statement_refusal (in_two loops) fs site form
    own-same loops fs site (single s) = single-same loops fs site s
    own-same loops fs site (branches cs) = refl
    own-same loops fs site (repeated head) = refl

    -- The loops round the blocks of a statement.
    abbrev loops_inside : List (ℕ × Head) → Site → Form → List (ℕ × Head)
    loops_inside loops site (single s) = loops
    loops_inside loops site (branches cs) = loops
    loops_inside loops site (repeated head) = (site.number, head) ∷ loops

    inside-one : (loops : List (ℕ × Head)) (site : Site) (form : Form) → inside (in_one loops) site form ≡ in_one (loops_inside loops site form)
    inside-one loops site (single s) = refl
    inside-one loops site (branches cs) = refl
    inside-one loops site (repeated head) = refl

    inside-two : (loops : List (ℕ × Head)) (site : Site) (form : Form) → inside (in_two loops) site form ≡ in_two (loops_inside loops site form)
    inside-two loops site (single s) = refl
    inside-two loops site (branches cs) = refl
    inside-two loops site (repeated head) = refl

    mutual
      body-same : (loops : List (ℕ × Head)) (fs : List Claim) (body : Body) → through_body (in_one loops) fs body ≡ through_body (in_two loops) fs body
      body-same loops fs nothing_more = refl
      body-same loops fs (statement site form blocks rest) =
          let ends = then-same (through_blocks (inside (in_one loops) site form) (fronts fs form) blocks) (through_blocks (inside (in_two loops) site form) (fronts fs form) blocks)
          (λ ends. unless (ends_refusal fs site form ends) (where_reached (behind fs form ends) (λ gs. through_body (in_one loops) gs rest)))
          (λ ends. unless (ends_refusal fs site form ends) (where_reached (behind fs form ends) (λ gs. through_body (in_two loops) gs rest)))
          (ap (λ (a : Around). through_blocks a (fronts fs form) blocks) (inside-one loops site form) ∙ blocks-same (loops_inside loops site form) (fronts fs form) blocks
          ∙ sym (ap (λ (a : Around). through_blocks a (fronts fs form) blocks) (inside-two loops site form)))
          (λ ends. ap (unless (ends_refusal fs site form ends))
          (reached-same (behind fs form ends) (λ gs. through_body (in_one loops) gs rest) (λ gs. through_body (in_two loops) gs rest) (λ gs. body-same loops gs rest))) in
          ap (unless (statement_refusal (in_one loops) fs site form)) ends
          ∙ ap (λ found. unless found (and_then (through_blocks (inside (in_two loops) site form) (fronts fs form) blocks)
          (λ ends. unless (ends_refusal fs site form ends) (where_reached (behind fs form ends) (λ gs. through_body (in_two loops) gs rest))))) (own-same loops fs site form)

      blocks-same : (loops : List (ℕ × Head)) (lists : List (List Claim)) (blocks : Blocks) → through_blocks (in_one loops) lists blocks ≡ through_blocks (in_two loops) lists blocks
      blocks-same loops lists no_block = refl
      blocks-same loops [] (block body blocks) = refl
      blocks-same loops (fs ∷ lists) (block body blocks) =
          then-same (through_body (in_one loops) fs body) (through_body (in_two loops) fs body)
          (λ known. and_then (through_blocks (in_one loops) lists blocks) (λ ends. Ok (known ∷ ends))) (λ known. and_then (through_blocks (in_two loops) lists blocks) (λ ends. Ok (known ∷ ends)))
          (body-same loops fs body) (λ known. ap (λ r. and_then r (λ ends. Ok (known ∷ ends))) (blocks-same loops lists blocks))

  methods-same : (local_at : ℕ → ℕ → Place) (n : ℕ) (ms : List MethodTree) → methods_refusal local_at one n ms ≡ methods_refusal local_at two n ms
  methods-same local_at n [] = refl
  methods-same local_at n (m ∷ ms) =
      ap (λ r. or_else (refusal_in r) (methods_refusal local_at one (suc n) ms)) (body-same m [] (zero_facts (local_at n) 0 m.locals) (body_of m.body))
      ∙ ap (or_else (refusal_in (through_method (local_at n) two m))) (methods-same local_at (suc n) ms)

pub bounds_ignore_order : BoundsIgnoreOrder
unfolding bounds_refusal typed_package
bounds_ignore_order p order struct_order =
    let t = typed_package p in
    methods-same t.package_name t.statuses t.structs t.methods order p.order struct_order p.struct_order (name_of_local p) 0 t.methods

pub points_ignore_order : PointsIgnoreOrder
unfolding typed_package
points_ignore_order p order struct_order r h = record { number = h.number; method = h.method; place = h.place; point = h.point; known = h.known; stands = h.stands; numbered = h.numbered; refused = h.refused }
