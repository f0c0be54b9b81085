-- A walk through statements in order that may look for one of them. What it comes to is what the rules of facts give, or the
-- list that is known before the statement that it looks for.
use Rattle.std.specs.Prelude.{ℕ, Bool, false, List, [], ◌∷◌, Option, None, Some, Result, Ok, Err, if◌then◌else◌, nat_eq}
use Rattle.wf_text.specs.declared.rules.Refusal.{Refusal}
use Rattle.wf_ast.specs.declared.numbers.StmtId.{StmtId}
use Rattle.wf_facts_exprs.specs.Claims.{Claim}
use Rattle.wf_facts.specs.FactLists.{common}
use Rattle.wf_bounds_stmts.specs.Statements.{Body, nothing_more, statement, Blocks, no_block, block}
use Rattle.wf_bounds_stmts.specs.FactRules.{Known, Around, inside, statement_refusal, fronts, behind, ends_refusal, unless}

-- Where a walk has come: to the statement that it looks for, or past what it has walked through.
pub data Reached (X : Type 0) : Type 0 where
  found : List Claim → Reached X
  passed : X → Reached X

-- What is walked through after that.
abbrev pub going_on : {X Y : Type 0} → Result (Reached X) Refusal → (X → Result (Reached Y) Refusal) → Result (Reached Y) Refusal
going_on (Ok (found fs)) next = Ok (found fs)
going_on (Ok (passed x)) next = next x
going_on (Err refusal) next = Err refusal

abbrev pub where_passed : Known → (List Claim → Result (Reached Known) Refusal) → Result (Reached Known) Refusal
where_passed None next = Ok (passed None)
where_passed (Some fs) next = next fs

-- Whether a statement is the one that is looked for.
abbrev pub is_sought : (sought : Option StmtId) → (number : ℕ) → Bool
is_sought None n = false
is_sought (Some s) n = nat_eq n s.0

abbrev mutual
  pub walked_body : Around → (sought : Option StmtId) → List Claim → Body → Result (Reached Known) Refusal
  walked_body a sought fs nothing_more = Ok (passed (Some fs))
  walked_body a sought fs (statement site form blocks rest) =
      if is_sought sought site.number then Ok (found fs)
      else going_on (unless (statement_refusal a fs site form) (going_on (walked_blocks (inside a site form) sought (fronts fs form) blocks) (λ ends.
      unless (ends_refusal fs site form ends) (Ok (passed (behind fs form ends))))))
      (λ known. where_passed known (λ gs. walked_body a sought gs rest))

  pub walked_blocks : Around → (sought : Option StmtId) → (fronts : List (List Claim)) → Blocks → Result (Reached (List Known)) Refusal
  walked_blocks a sought lists no_block = Ok (passed [])
  walked_blocks a sought [] (block body blocks) = Ok (passed [])
  walked_blocks a sought (fs ∷ lists) (block body blocks) =
      going_on (walked_body a sought fs body) (λ known. going_on (walked_blocks a sought lists blocks) (λ ends. Ok (passed (known ∷ ends))))

-- What is known where blocks meet, from what was known of those before: of the facts of the first that goes on those that
-- are known at the end of all the others that do.
abbrev pub joined : Known → Known → Known
joined None known = known
joined (Some fs) None = Some fs
joined (Some fs) (Some gs) = Some (common fs gs)

abbrev pub joined_all : Known → List Known → Known
joined_all known [] = known
joined_all known (k ∷ ks) = joined_all (joined known k) ks
