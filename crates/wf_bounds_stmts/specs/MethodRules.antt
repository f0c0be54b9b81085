-- What the rules of facts give for methods and packages.
use Rattle.std.specs.Prelude.{ℕ, suc, List, [], ◌∷◌, ◌++◌, Option, None, Some, Result, Ok, Err, if◌then◌else◌, nat_eq, slice_get, option_map, option_and_then, unwrap_or}
use Rattle.wf_text.specs.declared.place.Place.{Place}
use Rattle.wf_text.specs.declared.rules.Refusal.{Refusal}
use Rattle.wf_ast.specs.declared.types.Ty.{Ty}
use Rattle.wf_ast.specs.declared.types.Ty.TheVariants as types
use Rattle.wf_ast.specs.declared.typed_nodes.TypedNodes.{TypedNodes}
use Rattle.wf_ast.specs.TypedTree.{local, number, read, equal, Site}
use Rattle.wf_ast.specs.TypedTrees.{no_place, num_type}
use Rattle.wf_ast.specs.TypedPackage.{Variable, MethodTree, PackageTree, package_of}
use Rattle.wf_facts_exprs.specs.Claims.{Claim, compared, single}
use Rattle.wf_facts_exprs.specs.Demands.{or_else}
use Rattle.wf_bounds_stmts.specs.Statements.{Form, Body, nothing_more, statement, Blocks, no_block, block, body_of}
use Rattle.wf_bounds_stmts.specs.FactRules.{Known, Around, inside, fronts, behind, and_then, through_body, through_blocks}

-- A method begins with each of its numeric locals being 0, in order; `n` is the number of the first. Where the names of the
-- locals stand, which the trees don't tell, is `local_at`, by the local's number; and by the numbers of both for all methods.
abbrev pub zero_fact : (at : Place) → (n : ℕ) → Ty → List Claim
zero_fact at n (types.Num width lo hi) = compared (single (read at (num_type (types.Num width lo hi)) (local n))) equal (single (number no_place 0)) ∷ []
zero_fact at n ty = []

abbrev pub zero_facts : (local_at : ℕ → Place) → (n : ℕ) → List Variable → List Claim
zero_facts local_at n [] = []
zero_facts local_at n (x ∷ xs) = zero_fact (local_at n) n x.ty ++ zero_facts local_at (suc n) xs

abbrev pub around_body : PackageTree → MethodTree → Around
around_body p m = record { context = record { within = p; method = m }; loops = [] }

abbrev pub through_method : (local_at : ℕ → Place) → PackageTree → MethodTree → Result Known Refusal
through_method local_at p m = through_body (around_body p m) (zero_facts local_at 0 m.locals) (body_of m.body)

abbrev pub refusal_in : {X : Type 0} → Result X Refusal → Option Refusal
refusal_in (Ok x) = None
refusal_in (Err refusal) = Some refusal

-- The first refusal of the methods in order; `n` is the number of the first.
abbrev pub methods_refusal : (local_at : ℕ → ℕ → Place) → PackageTree → (n : ℕ) → List MethodTree → Option Refusal
methods_refusal local_at p n [] = None
methods_refusal local_at p n (m ∷ ms) = or_else (refusal_in (through_method (local_at n) p m)) (methods_refusal local_at p (suc n) ms)

-- What is known before the statement with a number; None where it isn't reached.

abbrev pub first_known : Known → Known → Known
first_known None other = other
first_known (Some fs) other = Some fs

abbrev pub known_in : Result Known Refusal → Known
known_in (Ok known) = known
known_in (Err refusal) = None

abbrev pub where_known : Known → (List Claim → Known) → Known
where_known known next = option_and_then next known

-- What the rules give after a statement with its blocks.
abbrev pub known_after : Around → List Claim → Site → Form → Blocks → Known
known_after a fs site form blocks = known_in (and_then (through_blocks (inside a site form) (fronts fs form) blocks) (λ ends. Ok (behind fs form ends)))

abbrev mutual
  pub front_in_body : Around → (n : ℕ) → List Claim → Body → Known
  front_in_body a n fs nothing_more = None
  front_in_body a n fs (statement site form blocks rest) =
      if nat_eq site.number n then Some fs
      else first_known (front_in_blocks (inside a site form) n (fronts fs form) blocks) (where_known (known_after a fs site form blocks) (λ gs. front_in_body a n gs rest))

  pub front_in_blocks : Around → (n : ℕ) → (fronts : List (List Claim)) → Blocks → Known
  front_in_blocks a n lists no_block = None
  front_in_blocks a n [] (block body blocks) = None
  front_in_blocks a n (fs ∷ lists) (block body blocks) = first_known (front_in_body a n fs body) (front_in_blocks a n lists blocks)

abbrev pub front_in_method : (local_at : ℕ → Place) → PackageTree → MethodTree → (n : ℕ) → Known
front_in_method local_at p m n = front_in_body (around_body p m) n (zero_facts local_at 0 m.locals) (body_of m.body)

abbrev pub front_in_methods : (local_at : ℕ → ℕ → Place) → PackageTree → (i : ℕ) → List MethodTree → (n : ℕ) → Known
front_in_methods local_at p i [] n = None
front_in_methods local_at p i (m ∷ ms) n = first_known (front_in_method (local_at i) p m n) (front_in_methods local_at p (suc i) ms n)

-- Typed packages, whose nodes tell where the names of locals stand.

abbrev pub local_at : TypedNodes → (m n : ℕ) → Place
local_at nodes m n = unwrap_or (option_map (λ x. x.at) (option_and_then (λ method. slice_get method.locals n) (slice_get nodes.methods m))) no_place

-- The first refusal of a typed package by the rules of facts; None where there is none.
unfoldable pub facts_refusal : TypedNodes → Option Refusal
facts_refusal nodes = methods_refusal (local_at nodes) (package_of nodes) 0 (package_of nodes).methods

-- What is known before a statement of a typed package.
unfoldable pub facts_in_front : TypedNodes → (statement : ℕ) → Known
facts_in_front nodes s = front_in_methods (local_at nodes) (package_of nodes) 0 (package_of nodes).methods s
