-- What the rules of facts refuse of a method stands where its body stands.
use Rattle.std.specs.Bool.{⊤}
use Rattle.std.proofs.Common.{ℕ, suc, Bool, true, false, if◌then◌else◌, nat_eq, List, [], ◌∷◌, Option, None, Some, Result, Ok, Err, IfErr, option_and_then}
use Rattle.std.specs.List.{AllByRecursion}
use Rattle.wf_text.specs.declared.place.Place.{Place}
use Rattle.wf_text.specs.declared.rules.Rule.TheVariants.{B1}
use Rattle.wf_text.specs.declared.rules.Refusal.{Refusal}
use Rattle.wf_ast.specs.declared.types.Ty.{Ty}
use Rattle.wf_ast.specs.TypedTree.{CondTree, ValueTree, Simple, assign, await, perform, invoke, break_from, continue_in, give_back, yield, claim, Site, Head, Block, end, plain, choose, loop}
use Rattle.wf_ast.specs.TypedPackage.{MethodTree, PackageTree}
use Rattle.wf_facts_exprs.specs.Claims.{Claim}
use Rattle.wf_facts_exprs.specs.Demands.{cond_refusal, value_refusal}
use Rattle.wf_facts.specs.FactLists.{with_condition}
use Rattle.wf_loops.specs.LoopRules.{limit, way_back_refusal, break_refusal}
use Rattle.wf_bounds_stmts.specs.Assertions.{inside_text}
use Rattle.wf_bounds_stmts.specs.Requirements.{number_type}
use Rattle.wf_bounds_stmts.specs.Statements.{Form, single, branches, repeated, Body, nothing_more, statement, Blocks, no_block, block, Reading, reading, branch, body_of}
use Rattle.wf_bounds_stmts.specs.FactRules.{Known, Around, loop_numbered, inside, return_refusal, jump_refusal, single_refusal, conditions_refusal, branch_fronts, ways_back_refusal, statement_refusal, fronts, behind, required_at_ends, limit_behind, ends_refusal, unless, and_then, where_reached, through_body, through_blocks}
use Rattle.wf_bounds_stmts.specs.MethodRules.{zero_facts, around_body, through_method, refusal_in, methods_refusal}
use Rattle.wf_bounds_laws.specs.TypedPlaces.{CondIsIn, ValueIsIn, MayBeIn, SimpleIsIn, HeadIsIn, BlockIsIn}
use Rattle.wf_bounds_laws.proofs.ExprRefusals.{RefusalIsIn, or-in, cond-in, value-in}
use Rattle.wf_bounds_laws.proofs.StatementRefusals.{limit-in, limits-in, lies-in, assign-in, invoke-in, await-in, perform-in, claim-in, way-back-in, break-in, front-in}

-- Statements as the rules take them.
abbrev FormIsIn : (Place → Type 0) → Form → Type 0
FormIsIn In (single s) = SimpleIsIn In s
FormIsIn In (branches cs) = AllByRecursion (CondIsIn In) cs
FormIsIn In (repeated head) = HeadIsIn In head

abbrev mutual
  BodyIsIn : (Place → Type 0) → Body → Type 0
  BodyIsIn In nothing_more = ⊤
  BodyIsIn In (statement site form blocks rest) = In site.at × FormIsIn In form × BlocksAreIn In blocks × BodyIsIn In rest

  BlocksAreIn : (Place → Type 0) → Blocks → Type 0
  BlocksAreIn In no_block = ⊤
  BlocksAreIn In (block body blocks) = BodyIsIn In body × BlocksAreIn In blocks

record ReadingIsIn (In : Place → Type 0) (r : Reading) : Type 0 where
  body : BodyIsIn In r.body
  conditions : AllByRecursion (CondIsIn In) r.conditions
  blocks : BlocksAreIn In r.blocks

module _ (In : Place → Type 0) where
  itself-in : (body : Body) → BodyIsIn In body → ReadingIsIn In (record { body = body; conditions = []; blocks = block body no_block })
  itself-in body h = record { body = h; conditions = tt; blocks = (h, tt) }

  branch-in : (chained : Bool) (site : Site) (cs : List CondTree) (blocks : Blocks) (rest : Body)
      → In site.at → AllByRecursion (CondIsIn In) cs → BlocksAreIn In blocks → BodyIsIn In rest → ReadingIsIn In (branch chained site cs blocks rest)
  branch-in true site cs blocks rest h c b r = record { body = (h, c, b, r); conditions = c; blocks = b }
  branch-in false site cs blocks rest h c b r = itself-in (statement site (branches cs) blocks rest) (h, c, b, r)

  reading-in : (b : Block) → BlockIsIn In b → ReadingIsIn In (reading b)
  reading-in end h = itself-in nothing_more tt
  reading-in (plain site s rest) h = itself-in (statement site (single s) no_block (reading rest).body) (h.0, h.1, tt, (reading-in rest h.2).body)
  reading-in (choose site chained c a b rest) h =
      branch-in chained site (c ∷ (reading b).conditions) (block (reading a).body (reading b).blocks) (reading rest).body
      h.0 (h.1, (reading-in b h.3).conditions) ((reading-in a h.2).body, (reading-in b h.3).blocks) (reading-in rest h.4).body
  reading-in (loop site head body rest) h =
      itself-in (statement site (repeated head) (block (reading body).body no_block) (reading rest).body)
      (h.0, h.1, ((reading-in body h.2).body, tt), (reading-in rest h.3).body)

module _ (In : Place → Type 0) (inside-in : (at : Place) (n : ℕ) → In at → In (inside_text at n)) where
  abbrev LoopsAreIn : List (ℕ × Head) → Type 0
  LoopsAreIn loops = AllByRecursion (λ l. HeadIsIn In l.1) loops

  numbered-in : (loops : List (ℕ × Head)) (w : ℕ) → LoopsAreIn loops → MayBeIn (HeadIsIn In) (loop_numbered loops w)
  numbered-in [] w a = tt
  numbered-in (l ∷ loops) w a = by_case (nat_eq l.0 w) (numbered-in loops w a.1)
    where
      by_case : (b : Bool) → MayBeIn (HeadIsIn In) (loop_numbered loops w) → MayBeIn (HeadIsIn In) (if b then Some l.1 else loop_numbered loops w)
      by_case true h = a.0
      by_case false h = h

  jump-in : (require : Head → Option Refusal) (head : Option Head) → ((it : Head) → HeadIsIn In it → RefusalIsIn In (require it)) → MayBeIn (HeadIsIn In) head → RefusalIsIn In (jump_refusal require head)
  jump-in require None h k = tt
  jump-in require (Some head) h k = h head k

  return-in : (fs : List Claim) (result : Option Ty) (v : Option ValueTree) → MayBeIn (ValueIsIn In) v → RefusalIsIn In (return_refusal fs result v)
  return-in fs result None h = tt
  return-in fs result (Some v) h =
      or-in In (value_refusal fs v) _ (value-in In fs v h) (lies-in In inside-in B1 fs (option_and_then number_type result) v h)

  single-in : (a : Around) (fs : List Claim) (site : Site) (s : Simple) → LoopsAreIn a.loops → In site.at → SimpleIsIn In s → RefusalIsIn In (single_refusal a fs site s)
  single-in a fs site (assign target op v) l h k = assign-in In inside-in fs target v k.0 k.1
  single-in a fs site (await at target io_arg call) l h k = await-in In inside-in fs at target call k.0 k.1 k.2
  single-in a fs site (perform at target call) l h k = perform-in In inside-in fs at target call k.0 k.1 k.2
  single-in a fs site (invoke at target keep mark called vs) l h k = invoke-in In inside-in a.context fs at target keep mark called vs k.0 k.1 k.2
  single-in a fs site (break_from w) l h k =
      jump-in (break_refusal fs site.at) (loop_numbered a.loops w) (λ head. break-in In inside-in fs site.at head h) (numbered-in a.loops w l)
  single-in a fs site (continue_in w) l h k =
      jump-in (way_back_refusal fs site.at) (loop_numbered a.loops w) (λ head. way-back-in In inside-in fs site.at head h) (numbered-in a.loops w l)
  single-in a fs site (give_back v) l h k = return-in fs a.context.method.gives v k
  single-in a fs site (yield status) l h k = tt
  single-in a fs site (claim goal by) l h k = claim-in In inside-in fs site.at goal by h k.0 k.1

  conditions-in : (fs : List Claim) (site : Site) (cs : List CondTree) → In site.at → AllByRecursion (CondIsIn In) cs → RefusalIsIn In (conditions_refusal fs site cs)
  conditions-in fs site [] h a = tt
  conditions-in fs site (c ∷ cs) h a =
      or-in In (cond_refusal fs c) _ (cond-in In fs c a.0) (or-in In (limit site.at (with_condition fs c false)) _ (limit-in In inside-in site.at (with_condition fs c false) h)
      (conditions-in (with_condition fs c false) site cs h a.1))

  own-in : (a : Around) (fs : List Claim) (site : Site) (form : Form) → LoopsAreIn a.loops → In site.at → FormIsIn In form → RefusalIsIn In (statement_refusal a fs site form)
  own-in a fs site (single s) l h k = single-in a fs site s l h k
  own-in a fs site (branches cs) l h k =
      or-in In (conditions_refusal fs site cs) _ (conditions-in fs site cs h k) (limits-in In inside-in site.at (branch_fronts fs cs) h)
  own-in a fs site (repeated head) l h k = front-in In inside-in fs site.at head h k

  ways-back-in : (head : Head) (ends : List Known) → HeadIsIn In head → RefusalIsIn In (ways_back_refusal head ends)
  ways-back-in head [] h = tt
  ways-back-in head (None ∷ ends) h = ways-back-in head ends h
  ways-back-in head (Some fs ∷ ends) h =
      or-in In (way_back_refusal fs head.close head) _ (way-back-in In inside-in fs head.close head h.2 h) (ways-back-in head ends h)

  required-ends-in : (form : Form) (ends : List Known) → FormIsIn In form → RefusalIsIn In (required_at_ends form ends)
  required-ends-in (single s) ends h = tt
  required-ends-in (branches cs) ends h = tt
  required-ends-in (repeated head) ends h = ways-back-in head ends h

  behind-in : (at : Place) (known : Known) → In at → RefusalIsIn In (limit_behind at known)
  behind-in at None h = tt
  behind-in at (Some fs) h = limit-in In inside-in at fs h

  ends-in : (fs : List Claim) (site : Site) (form : Form) (ends : List Known) → In site.at → FormIsIn In form → RefusalIsIn In (ends_refusal fs site form ends)
  ends-in fs site form ends h k = or-in In (required_at_ends form ends) _ (required-ends-in form ends k) (behind-in site.at (behind fs form ends) h)

  -- Answers.
  abbrev AnswerIsIn : {X : Type 0} → Result X Refusal → Type 0
  AnswerIsIn answer = IfErr answer (λ r. In r.at)

  unless-in : {X : Type 0} (found : Option Refusal) (answer : Result X Refusal) → RefusalIsIn In found → AnswerIsIn answer → AnswerIsIn (unless found answer)
  unless-in None answer h k = k
  unless-in (Some r) answer h k = h

  then-in : {X Y : Type 0} (answer : Result X Refusal) (next : X → Result Y Refusal) → AnswerIsIn answer → ((x : X) → AnswerIsIn (next x)) → AnswerIsIn (and_then answer next)
  then-in (Ok x) next h k = k x
  then-in (Err r) next h k = h

  reached-in : (known : Known) (next : List Claim → Result Known Refusal) → ((fs : List Claim) → AnswerIsIn (next fs)) → AnswerIsIn (where_reached known next)
  reached-in None next h = tt
  reached-in (Some fs) next h = h fs

  inside-loops-in : (a : Around) (site : Site) (form : Form) → LoopsAreIn a.loops → FormIsIn In form → LoopsAreIn (inside a site form).loops
  inside-loops-in a site (single s) l h = l
  inside-loops-in a site (branches cs) l h = l
  inside-loops-in a site (repeated head) l h = (h, l)

  mutual
    through-in : (a : Around) (fs : List Claim) (body : Body) → LoopsAreIn a.loops → BodyIsIn In body → AnswerIsIn (through_body a fs body)
    through-in a fs nothing_more l h = tt
    through-in a fs (statement site form blocks rest) l h =
        unless-in (statement_refusal a fs site form) _ (own-in a fs site form l h.0 h.1)
        (then-in (through_blocks (inside a site form) (fronts fs form) blocks) _
        (blocks-in (inside a site form) (fronts fs form) blocks (inside-loops-in a site form l h.1) h.2)
        (λ ends. unless-in (ends_refusal fs site form ends) _ (ends-in fs site form ends h.0 h.1)
        (reached-in (behind fs form ends) (λ gs. through_body a gs rest) (λ gs. through-in a gs rest l h.3))))

    blocks-in : (a : Around) (lists : List (List Claim)) (blocks : Blocks) → LoopsAreIn a.loops → BlocksAreIn In blocks → AnswerIsIn (through_blocks a lists blocks)
    blocks-in a lists no_block l h = tt
    blocks-in a [] (block body blocks) l h = tt
    blocks-in a (fs ∷ lists) (block body blocks) l h =
        then-in (through_body a fs body) _ (through-in a fs body l h.0)
        (λ known. then-in (through_blocks a lists blocks) (λ ends. Ok (known ∷ ends)) (blocks-in a lists blocks l h.1) (λ ends. tt))

  refused-in : {X : Type 0} (answer : Result X Refusal) → AnswerIsIn answer → RefusalIsIn In (refusal_in answer)
  refused-in (Ok x) h = tt
  refused-in (Err r) h = h

  -- Methods.
  pub methods-in : (local_at : ℕ → ℕ → Place) (p : PackageTree) (n : ℕ) (ms : List MethodTree) → AllByRecursion (λ m. BlockIsIn In m.body) ms → RefusalIsIn In (methods_refusal local_at p n ms)
  methods-in local_at p n [] a = tt
  methods-in local_at p n (m ∷ ms) a =
      or-in In (refusal_in (through_method (local_at n) p m)) _
      (refused-in (through_method (local_at n) p m) (through-in (around_body p m) (zero_facts (local_at n) 0 m.locals) (body_of m.body) tt (reading-in In m.body a.0).body))
      (methods-in local_at p (suc n) ms a.1)
