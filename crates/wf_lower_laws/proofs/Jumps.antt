-- Each `goto` leads to a label that stands after it.
use Rattle.std.proofs.Common.{◌≡◌, ℕ, ◌<◌, ◌^◌, Bool, true, false, ◌&&◌, List, ◌∷◌, Option, Some, None, nat_eq, refl, sym, ap, ◌∙◌, subst}
use Rattle.std.specs.Prelude.{if◌then◌else◌, option_map}
use Rattle.wf_ast.specs.TypedTree.{Simple, break_from, continue_in, assign, await, perform, invoke, give_back, yield, claim, Site, Block, end, plain, choose, loop}
use Rattle.wf_ast.specs.WellTyped.{Context, breaks, well_block, well_simple, well_cond}
use Rattle.wf_ast.proofs.Arena.{both_true}
use Rattle.wf_meaning.specs.Remaining.{is_point}
use Rattle.c_text.specs.declared.kinds.CNumber.TheVariants.{Int}
use Rattle.c_text.specs.CTree.{Code, finish, empty, jump, case_label, name_label}
use Rattle.c_meaning.specs.CStep.{Continuation, Place, at, by_name, find, first_of}
use Rattle.wf_exprs.specs.Names.{again_label, behind_label}
use Rattle.wf_lower_stmts.specs.Forms.{Form, resume_here}
use Rattle.wf_lower_stmts.specs.Statements.{awoken, lower_point, lower_plain, lower_simple}
use Rattle.wf_lower_stmts.specs.Lower.{lower, continues, Trail, top, within_if, in_loop, tail_of, lower_trail, Loop, loop_in, again_place, behind_place}
use Rattle.wf_lower_stmts.specs.Laws.{AreSpelt}
use Rattle.wf_lower_stmts.proofs.LoopLabels.{continues_at, breaks_at}
use Rattle.wf_lower_laws.specs.JumpLaw.{LeadsBehind}
use Rattle.wf_lower_laws.proofs.Apart.{has, left_or, same_number}
use Rattle.wf_lower_laws.proofs.Straight.{is_jump, plain_straight, begun_straight, awoken_straight, top_straight}
use Rattle.wf_lower_laws.proofs.Everywhere.{Everywhere, IsEasy, straight_everywhere, everywhere_if}
use Rattle.wf_lower_laws.proofs.Loops.{loops_in, loops_of, named_loop, Inside, inside_rest, inside_then, inside_else, inside_behind, inside_loop, inside_after, jump_finds, jump_held, is_in, break_plain, continue_plain}
use Rattle.wf_lower_laws.proofs.Weights.{before_behind, before_again}

-- What is asked of a `goto`; nothing of other statements.
abbrev pub Leads : (look : List ℕ → Option Place) → Code → Continuation → Type 0
Leads look (jump label rest) k = LeadsBehind (at (jump label rest) k) (look label)
Leads look code k = Unit {0}

pub leads_easy : (look : List ℕ → Option Place) → IsEasy (Leads look)
leads_easy look = record {
  assigns = λ target value rest k. tt;
  calls = λ target function given rest k. tt;
  leaves = λ value rest k. tt;
  branches = λ test body otherwise other rest k. tt;
  empties = λ rest k. tt;
  cases = λ n rest k. tt;
}

-- All that a statement is lowered to, but a jump.
module _ (P : Code → Continuation → Type 0) (easy : IsEasy P) where
  point_everywhere : (f : Form) (j : ℕ) (s : Simple) (rest : Code) (k : Continuation) → Everywhere P rest k → Everywhere P (lower_point f j s rest) k
  point_everywhere f j s rest k h =
      straight_everywhere P easy (resume_here j (awoken f j s rest)) (lower_point f j s rest) (begun_straight f j s (resume_here j (awoken f j s rest))) k (
        easy.branches _ (case_label (Int j) (empty finish)) _ finish (awoken f j s rest) k,
        ((easy.cases (Int j) (empty finish) _, (easy.empties finish _, tt)), (tt, straight_everywhere P easy rest (awoken f j s rest) (awoken_straight f j s rest) k h)),
      )

  pub simple_everywhere : (f : Form) (j : ℕ) (s : Simple) (rest : Code) (k : Continuation) → is_jump s ≡ false → Everywhere P rest k → Everywhere P (lower_simple f j s rest) k
  simple_everywhere f j s rest k e h =
      everywhere_if P (is_point s) (lower_point f j s rest) (lower_plain f s rest) k (point_everywhere f j s rest k h) (straight_everywhere P easy rest (lower_plain f s rest) (plain_straight f s rest e) k h)

-- Blocks.
module _ (f : Form) (n : Site → ℕ) (c : Context) (body : Block) (look : List ℕ → Option Place)
    (same : (name : List ℕ) → look name ≡ find (by_name name) (lower f n body (tail_of f top)) (lower_trail f n top))
    (small : (w : ℕ) → has (loops_in body) w ≡ true → w < 2 ^ 64) (spelt : AreSpelt body) where
  leads_if : (b : Bool) (name : List ℕ) (rest : Code) (k : Continuation) → Everywhere (Leads look) rest k → Everywhere (Leads look) (if b then name_label name (empty rest) else rest) k
  leads_if true name rest k h = (tt, (tt, h))
  leads_if false name rest k h = h

  break_finds : (w : ℕ) (it : Loop) → loop_in breaks w body top ≡ Some it → look (behind_label w) ≡ Some (behind_place f n it)
  break_finds w it e =
      same (behind_label w) ∙ (breaks_at f n w (small w (is_in breaks break_plain (λ w site chained c a b rest. refl) (λ w site head body rest. refl) w body top it e)) body top spelt
      ∙ ap (λ o. option_map (behind_place f n) o) e)

  continue_finds : (w : ℕ) (it : Loop) → loop_in continues w body top ≡ Some it → look (again_label w) ≡ Some (again_place f n it)
  continue_finds w it e =
      same (again_label w) ∙ (continues_at f n w (small w (is_in continues continue_plain (λ w site chained c a b rest. refl) (λ w site head body rest. refl) w body top it e)) body top spelt tt
      ∙ ap (λ o. first_of (option_map (again_place f n) o) None) e)

  -- What both kinds of jump of a block ask for.
  pub record Stands (b : Block) (t : Trail) : Type 0 where
    pub breaking : Inside breaks break_plain (λ w site chained c a b rest. refl) (λ w site head body rest. refl) body b t
    pub continuing : Inside continues continue_plain (λ w site chained c a b rest. refl) (λ w site head body rest. refl) body b t

  break_leads : (w : ℕ) (site : Site) (rest : Block) (t : Trail) → Stands (plain site (break_from w) rest) t → has (loops_of t) w ≡ true
      → LeadsBehind (at (jump (behind_label w) (lower f n rest (tail_of f t))) (lower_trail f n t)) (look (behind_label w))
  break_leads w site rest t s h =
      let it = named_loop w t h in
      let own : breaks w (plain site (break_from w) rest) ≡ true = left_or (nat_eq w w) (breaks w rest) (same_number w) in
      let finds = jump_finds breaks break_plain (λ w site chained c a b rest. refl) (λ w site head body rest. refl) body (plain site (break_from w) rest) t w s.breaking own it in
      let held = jump_held breaks break_plain (λ w site chained c a b rest. refl) (λ w site head body rest. refl) body (plain site (break_from w) rest) t w s.breaking own it in
      let P : Option Place → Type 0 = LeadsBehind (at (jump (behind_label w) (lower f n rest (tail_of f t))) (lower_trail f n t)) in
      subst P (sym (break_finds w it.it finds)) (before_behind f n it.it t (behind_label w) rest it.around held)

  continue_leads : (w : ℕ) (site : Site) (rest : Block) (t : Trail) → Stands (plain site (continue_in w) rest) t → has (loops_of t) w ≡ true
      → LeadsBehind (at (jump (again_label w) (lower f n rest (tail_of f t))) (lower_trail f n t)) (look (again_label w))
  continue_leads w site rest t s h =
      let it = named_loop w t h in
      let own : continues w (plain site (continue_in w) rest) ≡ true = left_or (nat_eq w w) (continues w rest) (same_number w) in
      let finds = jump_finds continues continue_plain (λ w site chained c a b rest. refl) (λ w site head body rest. refl) body (plain site (continue_in w) rest) t w s.continuing own it in
      let held = jump_held continues continue_plain (λ w site chained c a b rest. refl) (λ w site head body rest. refl) body (plain site (continue_in w) rest) t w s.continuing own it in
      let P : Option Place → Type 0 = LeadsBehind (at (jump (again_label w) (lower f n rest (tail_of f t))) (lower_trail f n t)) in
      subst P (sym (continue_finds w it.it finds)) (before_again f n it.it t (again_label w) rest it.around held)

  -- A simple statement, with what its own rule gives.
  simple_leads : (site : Site) (s : Simple) (rest : Block) (t : Trail) → Stands (plain site s rest) t → well_simple c (loops_of t) s ≡ true
      → Everywhere (Leads look) (lower f n rest (tail_of f t)) (lower_trail f n t) → Everywhere (Leads look) (lower f n (plain site s rest) (tail_of f t)) (lower_trail f n t)
  simple_leads site (break_from w) rest t s h l = (break_leads w site rest t s h, l)
  simple_leads site (continue_in w) rest t s h l = (continue_leads w site rest t s h, l)
  simple_leads site (assign to op v) rest t s h l = simple_everywhere (Leads look) (leads_easy look) f (n site) (assign to op v) _ _ refl l
  simple_leads site (await at to a call) rest t s h l = simple_everywhere (Leads look) (leads_easy look) f (n site) (await at to a call) _ _ refl l
  simple_leads site (perform at to call) rest t s h l = simple_everywhere (Leads look) (leads_easy look) f (n site) (perform at to call) _ _ refl l
  simple_leads site (invoke at to keep mark called given_args) rest t s h l = simple_everywhere (Leads look) (leads_easy look) f (n site) (invoke at to keep mark called given_args) _ _ refl l
  simple_leads site (give_back v) rest t s h l = simple_everywhere (Leads look) (leads_easy look) f (n site) (give_back v) _ _ refl l
  simple_leads site (yield k) rest t s h l = simple_everywhere (Leads look) (leads_easy look) f (n site) (yield k) _ _ refl l
  simple_leads site (claim goal ax) rest t s h l = simple_everywhere (Leads look) (leads_easy look) f (n site) (claim goal ax) _ _ refl l

  tail_leads : (t : Trail) → Everywhere (Leads look) (tail_of f t) (lower_trail f n t)
  tail_leads top = straight_everywhere (Leads look) (leads_easy look) finish (tail_of f top) (top_straight f) (lower_trail f n top) tt
  tail_leads (within_if passed rest t) = tt
  tail_leads (in_loop site head body rest t) = leads_end (continues site.number body) (again_label site.number) (lower_trail f n (in_loop site head body rest t))
    where
      leads_end : (b : Bool) (name : List ℕ) (k : Continuation) → Everywhere (Leads look) (if b then name_label name (empty finish) else finish) k
      leads_end true name k = (tt, (tt, tt))
      leads_end false name k = tt

  pub block_leads : (b : Block) (t : Trail) → Stands b t → well_block c (loops_of t) b ≡ true → Everywhere (Leads look) (lower f n b (tail_of f t)) (lower_trail f n t)
  block_leads end t s h = tail_leads t
  block_leads (plain site it rest) t s h =
      let p = both_true (well_simple c (loops_of t) it) (well_block c (loops_of t) rest) h in
      simple_leads site it rest t s p.0 (block_leads rest t (record { breaking = inside_rest _ _ _ _ body site it rest t s.breaking; continuing = inside_rest _ _ _ _ body site it rest t s.continuing }) p.1)
  block_leads (choose site chained cond a b rest) t s h =
      let p = (both_true (well_cond c cond) (well_block c (loops_of t) a && (well_block c (loops_of t) b && well_block c (loops_of t) rest)) h).1 in
      let q = both_true (well_block c (loops_of t) a) (well_block c (loops_of t) b && well_block c (loops_of t) rest) p in
      let r = both_true (well_block c (loops_of t) b) (well_block c (loops_of t) rest) q.1 in (
        tt,
        (
          block_leads a (within_if b rest t) (record { breaking = inside_then _ _ _ _ body site chained cond a b rest t s.breaking; continuing = inside_then _ _ _ _ body site chained cond a b rest t s.continuing }) q.0,
          (
            block_leads b (within_if end rest t) (record { breaking = inside_else _ _ _ _ body site chained cond a b rest t s.breaking; continuing = inside_else _ _ _ _ body site chained cond a b rest t s.continuing }) r.0,
            block_leads rest t (record { breaking = inside_behind _ _ _ _ body site chained cond a b rest t s.breaking; continuing = inside_behind _ _ _ _ body site chained cond a b rest t s.continuing }) r.1,
          ),
        ),
      )
  block_leads (loop site head inner rest) t s h =
      let p = (both_true (well_cond c head.cond) _ h).1 in
      let q = (both_true _ _ p).1 in
      let r = (both_true _ _ q).1 in
      let u = both_true (well_block c (site.number ∷ loops_of t) inner) (well_block c (loops_of t) rest) r in (
        tt,
        (
          block_leads inner (in_loop site head inner rest t) (record { breaking = inside_loop _ _ _ _ body site head inner rest t s.breaking; continuing = inside_loop _ _ _ _ body site head inner rest t s.continuing }) u.0,
          leads_if (breaks site.number inner) (behind_label site.number) (lower f n rest (tail_of f t)) (lower_trail f n t)
              (block_leads rest t (record { breaking = inside_after _ _ _ _ body site head inner rest t s.breaking; continuing = inside_after _ _ _ _ body site head inner rest t s.continuing }) u.1),
        ),
      )
