-- What walks come to: one that looks for no statement what the rules of facts give, and one that looks for a statement what is
-- known before it, or else the same.
use Rattle.std.proofs.Common.{◌≡◌, Bool, true, false, List, [], ◌∷◌, Option, Some, None, Result, Ok, Err, nat_eq, refl, ap, ◌∙◌}
use Rattle.std.specs.Prelude.{if◌then◌else◌}
use Rattle.wf_text.specs.declared.rules.Refusal.{Refusal}
use Rattle.wf_ast.specs.declared.numbers.StmtId.{StmtId}
use Rattle.wf_facts_exprs.specs.Claims.{Claim}
use Rattle.wf_bounds_stmts.specs.Statements.{Body, nothing_more, statement, Blocks, no_block, block}
use Rattle.wf_bounds_stmts.specs.FactRules.{Known, Around, inside, statement_refusal, fronts, behind, ends_refusal, unless, and_then, where_reached, through_body, through_blocks}
use Rattle.wf_bounds_stmts.specs.MethodRules.{first_known, known_in, where_known, front_in_body, front_in_blocks}
use Rattle.wf_bounds.specs.Walks.{Reached, found, passed, going_on, where_passed, walked_body, walked_blocks}

-- What is reached where nothing is found.
abbrev pub only_passed : {X : Type 0} → Result X Refusal → Result (Reached X) Refusal
only_passed (Ok x) = Ok (passed x)
only_passed (Err refusal) = Err refusal

stmt_through : (requires : Option Refusal) (walked : Result (Reached (List Known)) Refusal) (through : Result (List Known) Refusal) (ends : List Known → Option Refusal) (after : List Known → Known)
    (walk : List Claim → Result (Reached Known) Refusal) (rest : List Claim → Result Known Refusal) → walked ≡ only_passed through → ((gs : List Claim) → walk gs ≡ only_passed (rest gs))
    → going_on (unless requires (going_on walked (λ ks. unless (ends ks) (Ok (passed (after ks)))))) (λ known. where_passed known walk)
    ≡ only_passed (unless requires (and_then through (λ ks. unless (ends ks) (where_reached (after ks) rest))))
stmt_through (Some r) walked through ends after walk rest e h = refl
stmt_through None walked (Err r) ends after walk rest e h = ap (λ w. going_on (going_on w (λ ks. unless (ends ks) (Ok (passed (after ks))))) (λ known. where_passed known walk)) e
stmt_through None walked (Ok ks) ends after walk rest e h =
    ap (λ w. going_on (going_on w (λ ks. unless (ends ks) (Ok (passed (after ks))))) (λ known. where_passed known walk)) e ∙ by (ends ks) (after ks)
  where
    by : (refusal : Option Refusal) (known : Known) → going_on (unless refusal (Ok (passed known))) (λ k. where_passed k walk) ≡ only_passed (unless refusal (where_reached known rest))
    by (Some r) known = refl
    by None None = refl
    by None (Some gs) = h gs

block_through : (one : Result (Reached Known) Refusal) (through : Result Known Refusal) (others : Result (Reached (List Known)) Refusal) (rest : Result (List Known) Refusal) → one ≡ only_passed through → others ≡ only_passed rest
    → going_on one (λ known. going_on others (λ ends. Ok (passed (known ∷ ends)))) ≡ only_passed (and_then through (λ known. and_then rest (λ ends. Ok (known ∷ ends))))
block_through one (Err r) others rest e f = ap (λ w. going_on w (λ known. going_on others (λ ends. Ok (passed (known ∷ ends))))) e
block_through one (Ok known) others (Err r) e f =
    ap (λ w. going_on w (λ known. going_on others (λ ends. Ok (passed (known ∷ ends))))) e ∙ ap (λ w. going_on w (λ ends. Ok (passed (known ∷ ends)))) f
block_through one (Ok known) others (Ok ends) e f =
    ap (λ w. going_on w (λ known. going_on others (λ ends. Ok (passed (known ∷ ends))))) e ∙ ap (λ w. going_on w (λ ends. Ok (passed (known ∷ ends)))) f

mutual
  pub walk_is_through : (a : Around) (fs : List Claim) (body : Body) → walked_body a None fs body ≡ only_passed (through_body a fs body)
  walk_is_through a fs nothing_more = refl
  walk_is_through a fs (statement site form blocks rest) =
      stmt_through (statement_refusal a fs site form) (walked_blocks (inside a site form) None (fronts fs form) blocks) (through_blocks (inside a site form) (fronts fs form) blocks) (ends_refusal fs site form) (behind fs form)
      (λ gs. walked_body a None gs rest) (λ gs. through_body a gs rest) (blocks_are_through (inside a site form) (fronts fs form) blocks) (λ gs. walk_is_through a gs rest)

  blocks_are_through : (a : Around) (lists : List (List Claim)) (blocks : Blocks) → walked_blocks a None lists blocks ≡ only_passed (through_blocks a lists blocks)
  blocks_are_through a lists no_block = refl
  blocks_are_through a [] (block body blocks) = refl
  blocks_are_through a (fs ∷ lists) (block body blocks) =
      block_through (walked_body a None fs body) (through_body a fs body) (walked_blocks a None lists blocks) (through_blocks a lists blocks) (walk_is_through a fs body) (blocks_are_through a lists blocks)

-- Where the rules refuse nothing, a walk finds what is known before the statement that it looks for, and comes else to what they
-- give.
abbrev pub found_or : {X : Type 0} → Known → X → Reached X
found_or (Some gs) x = found gs
found_or None x = passed x

after_found : (walk : List Claim → Result (Reached Known) Refusal) (rest : List Claim → Result Known Refusal) (later : List Claim → Known) (known : Known)
    → ((gs : List Claim) (k : Known) → rest gs ≡ Ok k → walk gs ≡ Ok (found_or (later gs) k)) → (refusal : Option Refusal) (goes : Known) → unless refusal (where_reached goes rest) ≡ Ok known
    → going_on (unless refusal (Ok (passed goes))) (λ k. where_passed k walk) ≡ Ok (found_or (where_known goes later) known)
after_found walk rest later known outer (Some r) goes h = absurd (cc h)
after_found walk rest later known outer None None h = let e : None ≡ known = cc h in ap (λ k. Ok (passed k)) e
after_found walk rest later known outer None (Some gs) h = outer gs known h

stmt_found : (test : Bool) (fs : List Claim) (requires : Option Refusal) (walked : Result (Reached (List Known)) Refusal) (through : Result (List Known) Refusal) (ends : List Known → Option Refusal) (after : List Known → Known)
    (walk : List Claim → Result (Reached Known) Refusal) (rest : List Claim → Result Known Refusal) (within : Known) (later : List Claim → Known) (known : Known)
    → ((ks : List Known) → through ≡ Ok ks → walked ≡ Ok (found_or within ks)) → ((gs : List Claim) (k : Known) → rest gs ≡ Ok k → walk gs ≡ Ok (found_or (later gs) k))
    → unless requires (and_then through (λ ks. unless (ends ks) (where_reached (after ks) rest))) ≡ Ok known
    → (if test then Ok (found fs) else going_on (unless requires (going_on walked (λ ks. unless (ends ks) (Ok (passed (after ks)))))) (λ k. where_passed k walk))
    ≡ Ok (found_or (if test then Some fs else first_known within (where_known (known_in (and_then through (λ ks. Ok (after ks)))) later)) known)
stmt_found true fs requires walked through ends after walk rest within later known inner outer h = refl
stmt_found false fs (Some r) walked through ends after walk rest within later known inner outer h = absurd (cc h)
stmt_found false fs None walked (Err r) ends after walk rest within later known inner outer h = absurd (cc h)
stmt_found false fs None walked (Ok ks) ends after walk rest within later known inner outer h =
    ap (λ w. going_on (going_on w (λ ks. unless (ends ks) (Ok (passed (after ks))))) (λ k. where_passed k walk)) (inner ks refl) ∙ by within
  where
    by : (front : Known)
        → going_on (going_on (Ok (found_or front ks)) (λ ks. unless (ends ks) (Ok (passed (after ks))))) (λ k. where_passed k walk) ≡ Ok (found_or (first_known front (where_known (after ks) later)) known)
    by (Some gs) = refl
    by None = after_found walk rest later known outer (ends ks) (after ks) h

block_found : (one : Result (Reached Known) Refusal) (through : Result Known Refusal) (others : Result (Reached (List Known)) Refusal) (rest : Result (List Known) Refusal) (front later : Known) (ends : List Known)
    → ((k : Known) → through ≡ Ok k → one ≡ Ok (found_or front k)) → ((ks : List Known) → rest ≡ Ok ks → others ≡ Ok (found_or later ks))
    → and_then through (λ known. and_then rest (λ ends. Ok (known ∷ ends))) ≡ Ok ends
    → going_on one (λ known. going_on others (λ ks. Ok (passed (known ∷ ks)))) ≡ Ok (found_or (first_known front later) ends)
block_found one (Err r) others rest front later ends inner outer h = absurd (cc h)
block_found one (Ok k) others (Err r) front later ends inner outer h = absurd (cc h)
block_found one (Ok k) others (Ok ks) front later ends inner outer h =
    ap (λ w. going_on w (λ known. going_on others (λ ks. Ok (passed (known ∷ ks))))) (inner k refl) ∙ by front
  where
    same : (k ∷ ks) ≡ ends
    same = cc h

    at : (o : Known) → going_on (Ok (found_or o ks)) (λ ks. Ok (passed (k ∷ ks))) ≡ Ok (found_or o ends)
    at (Some gs) = refl
    at None = ap (λ e. Ok (passed e)) same

    by : (o : Known) → going_on (Ok (found_or o k)) (λ known. going_on others (λ ks. Ok (passed (known ∷ ks)))) ≡ Ok (found_or (first_known o later) ends)
    by (Some gs) = refl
    by None = ap (λ w. going_on w (λ ks. Ok (passed (k ∷ ks)))) (outer ks refl) ∙ at later

mutual
  pub walk_finds : (a : Around) (s : StmtId) (fs : List Claim) (body : Body) (known : Known) → through_body a fs body ≡ Ok known → walked_body a (Some s) fs body ≡ Ok (found_or (front_in_body a s.0 fs body) known)
  walk_finds a s fs nothing_more known h = let e : Some fs ≡ known = cc h in ap (λ k. Ok (passed k)) e
  walk_finds a s fs (statement site form blocks rest) known h =
      stmt_found (nat_eq site.number s.0) fs (statement_refusal a fs site form) (walked_blocks (inside a site form) (Some s) (fronts fs form) blocks) (through_blocks (inside a site form) (fronts fs form) blocks) (ends_refusal fs site form) (behind fs form)
      (λ gs. walked_body a (Some s) gs rest) (λ gs. through_body a gs rest) (front_in_blocks (inside a site form) s.0 (fronts fs form) blocks) (λ gs. front_in_body a s.0 gs rest) known
      (λ ks e. blocks_find (inside a site form) s (fronts fs form) blocks ks e) (λ gs k e. walk_finds a s gs rest k e) h

  blocks_find : (a : Around) (s : StmtId) (lists : List (List Claim)) (blocks : Blocks) (ends : List Known) → through_blocks a lists blocks ≡ Ok ends → walked_blocks a (Some s) lists blocks ≡ Ok (found_or (front_in_blocks a s.0 lists blocks) ends)
  blocks_find a s lists no_block ends h = let e : [] ≡ ends = cc h in ap (λ k. Ok (passed k)) e
  blocks_find a s [] (block body blocks) ends h = let e : [] ≡ ends = cc h in ap (λ k. Ok (passed k)) e
  blocks_find a s (fs ∷ lists) (block body blocks) ends h =
      block_found (walked_body a (Some s) fs body) (through_body a fs body) (walked_blocks a (Some s) lists blocks) (through_blocks a lists blocks) (front_in_body a s.0 fs body) (front_in_blocks a s.0 lists blocks) ends
      (λ k e. walk_finds a s fs body k e) (λ ks e. blocks_find a s lists blocks ks e) h
