-- A file, token by token.
use Rattle.std.proofs.Common.{◌≡◌, ◌+◌, ◌-◌, ◌<◌, ℕ, zero, suc, Bool, true, false, Option, None, Some, IfSome, Ok, List, [], ◌∷◌, ◌++◌, length, refl, sym, ◌∙◌, ap, subst, arith, length-append, append_assoc, nat_eq, if◌then◌else◌, Err}
use Rattle.wf_text.specs.declared.faults.PhaseFault.{PhaseFault}
use Rattle.wf_text.specs.declared.faults.PhaseFault.TheVariants as phase
use Rattle.std.proofs.lemmas.Bool.Decides.{nat_tests}
use Rattle.std.proofs.lemmas.List.{append-nil}
use Rattle.std.specs.List.{slice_get}
use Rattle.std.specs.Option.{option_map_or}
use Rattle.wf_text.specs.declared.place.Place.{Place}
use Rattle.wf_text.specs.declared.rules.Refusal.{Refusal}
use Rattle.wf_text.specs.declared.rules.Rule.{Rule}
use Rattle.wf_text.specs.declared.rules.Rule.TheVariants.{L3}
use Rattle.wf_ast.specs.ParsedParts.{Parsed}
use Rattle.wf_ast.specs.ReadPackage.{decls_of}
use Rattle.wf_ast.proofs.TreeLemmas.{slice_get-seam}
use Rattle.wf_tokens.specs.Places.{behind_bytes, first_place}
use Rattle.wf_tokens.specs.Spelling as spelling
use Rattle.wf_tokens.specs.Spelling.{IsStuck, IsOver, start}
use Rattle.wf_tokens.proofs.ReadingOn.{same_end-all}
use Rattle.wf_parse_grammar.specs.declared.symbols.Want.{Want}
use Rattle.wf_parse_grammar.specs.declared.tokens.Kind.TheVariants as kinds
use Rattle.wf_parse_grammar.specs.declared.tokens.Token.{Token}
use Rattle.wf_parse_grammar.specs.Building.{Ending, Built, Refused, ends}
use Rattle.wf_parse_grammar.specs.Values.{Made}
use Rattle.wf_parse_nodes.specs.declared.maker.Maker.{Maker}
use Rattle.wf_parse_nodes.specs.declared.values.SemanticValue.{SemanticValue}
use Rattle.wf_parse_nodes.specs.Makers.{IsSound}
use Rattle.wf_parse_nodes.specs.Seen.{AreOf, IsOrdered, made_of}
use Rattle.wf_parse.specs.Lexing.{AnswersNext, AreTokensOf, IsWholeFile, ChangesTexts, LexedSoFar, ReadsToken, ReadsRest}
use Rattle.wf_parse.specs.Machines.{State, AnswersToken, MakesFirst}
use Rattle.wf_parse.specs.Parsing.{RefusesFile, place_left, refusal_of}
use Rattle.wf_parse.specs.Reading.{ReadsOne, AnswersBytes, AnswersFileEnd, reading, read_file}
use Rattle.wf_parse.proofs.Lexed.{lexed_more, lexed_whole, lexed_up_to}
use Rattle.wf_parse.proofs.Outcomes.{bad_step}
use Rattle.wf_parse.proofs.ReadingVerdicts.{refused_is_wrong, built_is_accepted}

-- What stands on top is performed first, whatever tokens are left.
reading_makes : (most : ℕ) (ts : List Token) → MakesFirst (λ room k made. reading most room ts k made)
reading_makes most [] room a k made = refl
reading_makes zero (t ∷ ts) room a k made = refl
reading_makes (suc most) (t ∷ ts) room a k made = refl

-- A token within the number of tokens.
pub token_read : (limited : Bool) (most : ℕ) (t : Token) (old new : State) (done : Unit {0}) → limited ≡ true → 0 < most → AnswersToken limited t old new (Ok done) → (ts : List Token) → reading most old.room (t ∷ ts) old.wants old.made ≡ reading (most - 1) new.room ts new.wants new.made
token_read false most t old new done is some answers ts = absurd (cc is)
token_read true zero t old new done is some answers ts = absurd (omega (arith, some))
token_read true (suc most) t old new done is some answers ts =
    let less : most ≡ suc most - 1 = omega (arith) in
    answers (suc (length ts)) (λ room k made. reading most room ts k made) (reading_makes most ts) ∙ ap (λ n. reading n new.room ts new.wants new.made) less

-- After texts that have joined.
pub texts_sound : (old new : Maker) → IsSound old → ChangesTexts old.package new.package → new.values ≡ old.values → IsSound new
texts_sound old new s e f =
    let P : Parsed → Type 0 = λ p. IsOrdered p × AreOf p old.values in
    let joined : Parsed = record old.package { texts = new.package.texts } in
    let there : P joined = (record { stmts = s.ordered.stmts; decls = s.ordered.decls }, s.below) in
    let both : P new.package = subst P (sym e) there in
    let Q : List SemanticValue → Type 0 = AreOf new.package in
    record { ordered = both.0; below = subst Q (sym f) both.1 }

-- A file of which some tokens are read. `p` is the package before it; `first` tokens may stand in the file and those after
-- it, and `most` of them are left.
pub record ReadSoFar (number first : ℕ) (bytes : List ℕ) (p : Parsed) (lexer : spelling.State) (texts : List (List ℕ)) (most : ℕ) (now : State) : Type 0 where
  pub tokens : List Token
  pub lexed : LexedSoFar number bytes lexer p.texts texts tokens
  pub goes_on : (ts : List Token) → reading most now.room ts now.wants now.made ≡ read_file first (tokens ++ ts) (decls_of p)
  pub count : first ≡ most + length tokens

-- Texts that join change nothing of what is made.
abbrev pub state_with : (room : ℕ) → (wants : List Want) → (values : List SemanticValue) → Parsed → State
state_with room wants values p = record { room = room; wants = wants; made = made_of p values }

pub same_state : (room : ℕ) (wants : List Want) (values : List SemanticValue) (p q : Parsed) → ChangesTexts p q → state_with room wants values q ≡ state_with room wants values p
same_state room wants values p q e = ap (state_with room wants values) e

-- One token more.
pub so_far_more : (number first : ℕ) (bytes : List ℕ) (p : Parsed) (lexer behind : spelling.State) (texts grown kept : List (List ℕ)) (t : Token) (most left : ℕ) (old before now : State)
    → ReadSoFar number first bytes p lexer texts most old → before ≡ old → ReadsToken lexer texts t behind grown → kept ≡ grown
    → (0 < most) × ((ts : List Token) → reading most before.room (t ∷ ts) before.wants before.made ≡ reading (most - 1) now.room ts now.wants now.made) → left ≡ most - 1
    → ReadSoFar number first bytes p behind kept left now
so_far_more number first bytes p lexer behind texts grown kept t most left old before now r same one keeps answers left_is =
    let longer = length-append r.tokens (t ∷ []) in
    let some = answers.0 in
    let count = r.count in
    let P : List (List ℕ) → Type 0 = λ xs. LexedSoFar number bytes behind p.texts xs (r.tokens ++ t ∷ []) in
    record {
      tokens = r.tokens ++ t ∷ [];
      lexed = subst P (sym keeps) (lexed_more number bytes lexer behind p.texts texts grown r.tokens (r.tokens ++ t ∷ []) one.item t r.lexed one.reads one.texts_are one.is refl);
      goes_on = λ ts.
          ap (λ n. reading n now.room ts now.wants now.made) left_is ∙ sym (answers.1 ts)
          ∙ ap (λ (s : State). reading most s.room (t ∷ ts) s.wants s.made) same ∙ r.goes_on (t ∷ ts) ∙ ap (λ all. read_file first all (decls_of p)) (sym (append_assoc r.tokens (t ∷ []) ts));
      count = omega (arith, count, longer, some, left_is);
    }

after_zero : (n : ℕ) → nat_eq (suc n) 0 ≡ false
after_zero n = let h : 0 < suc n = omega arith in grind (arith, nat_tests, h)

after_one : (n : ℕ) → nat_eq (suc (suc n)) 1 ≡ false
after_one n = let h : 1 < suc (suc n) = omega arith in grind (arith, nat_tests, h)

-- The place of a token of a file, from the file's end.
place_at : (end : Place) (front : List Token) (t : Token) (back : List Token) → place_left end (front ++ t ∷ back) (suc (length back)) ≡ t.at
place_at end front t back =
    let long = length-append front (t ∷ back) in
    let spot : length (front ++ t ∷ back) - suc (length back) ≡ length front = omega (arith, long) in
    ap (λ b. if b then end else option_map_or (λ (x : Token). x.at) (slice_get (front ++ t ∷ back) (length (front ++ t ∷ back) - suc (length back))) end) (after_zero (length back))
    ∙ ap (λ i. option_map_or (λ (x : Token). x.at) (slice_get (front ++ t ∷ back) i) end) spot ∙ ap (λ o. option_map_or (λ (x : Token). x.at) o end) (slice_get-seam front t back)

refusal_at : (end : Place) (front : List Token) (t : Token) (back : List Token) (bytes_refused : Option Refusal) (rule : Rule) → IfSome bytes_refused (λ r. 0 < length back)
    → refusal_of end (front ++ t ∷ back) bytes_refused rule (suc (length back)) ≡ record { rule = rule; at = t.at }
refusal_at end front t back None rule h = ap (λ at. let r : Refusal = record { rule = rule; at = at } in r) (place_at end front t back)
refusal_at end front t [] (Some refusal) rule h = absurd (omega (arith, h))
refusal_at end front t (x ∷ back) (Some refusal) rule h =
    ap (λ b. let r : Refusal = record { rule = rule; at = place_left end (front ++ t ∷ x ∷ back) (suc (suc (length back))) } in if b then refusal else r) (after_one (length back))
    ∙ ap (λ at. let r : Refusal = record { rule = rule; at = at } in r) (place_at end front t (x ∷ back))

-- A token that breaks a rule.
pub so_far_refused : (number first : ℕ) (bytes : List ℕ) (p : Parsed) (lexer behind : spelling.State) (texts grown kept whole : List (List ℕ)) (t : Token) (most : ℕ) (old before : State) (rule : Rule) (refusal : Refusal)
    → ReadSoFar number first bytes p lexer texts most old → before ≡ old → ReadsToken lexer texts t behind grown → kept ≡ grown
    → ((ts : List Token) → reading most before.room (t ∷ ts) before.wants before.made ≡ Refused rule (suc (length ts))) → ReadsRest behind kept whole → refusal ≡ record { rule = rule; at = t.at }
    → RefusesFile number first p.texts bytes refusal
so_far_refused number first bytes p lexer behind texts grown kept whole t most old before rule refusal r same one keeps answers rest is =
    let back = rest.tokens in
    let all : List Token = r.tokens ++ t ∷ back in
    let P : List (List ℕ) → Type 0 = λ xs. LexedSoFar number bytes behind p.texts xs (r.tokens ++ t ∷ []) in
    let lexed = subst P (sym keeps) (lexed_more number bytes lexer behind p.texts texts grown r.tokens (r.tokens ++ t ∷ []) one.item t r.lexed one.reads one.texts_are one.is refl) in
    let Q : List Token → Type 0 = λ ts. AreTokensOf number bytes p.texts whole ts rest.refused in
    let refused : read_file first all (decls_of p) ≡ Refused rule (suc (length back)) =
    sym (r.goes_on (t ∷ back)) ∙ sym (ap (λ (s : State). reading most s.room (t ∷ back) s.wants s.made) same) ∙ answers back in
    record {
      texts = whole;
      tokens = all;
      bytes_refused = rest.refused;
      rule = rule;
      left = suc (length back);
      tokens_are = subst Q (append_assoc r.tokens (t ∷ []) back) (rest.whole number bytes p.texts (r.tokens ++ t ∷ []) lexed);
      wrong = refused_is_wrong first all (decls_of p) rule (suc (length back)) refused;
      is = is ∙ sym (refusal_at (behind_bytes (first_place number) bytes) r.tokens t back rest.refused rule rest.last);
    }

-- Bytes that are no token: nothing goes on with the token that stands for them.
bad_reading : (most room : ℕ) (k : List Want) (made : Made) (p : Place) → (rule : Rule) × (reading most room (record { kind = kinds.Bad; at = p } ∷ []) k made ≡ Refused rule 1)
bad_reading zero room k made p = bad_step false room k made p 1 (λ _ _ _. Refused L3 1)
bad_reading (suc most) room k made p = bad_step true room k made p 1 (λ room_left wanted made_then. reading most room_left [] wanted made_then)

pub so_far_stuck : (number first : ℕ) (bytes : List ℕ) (p : Parsed) (lexer : spelling.State) (texts : List (List ℕ)) (most : ℕ) (now : State) (refusal : Refusal)
    → ReadSoFar number first bytes p lexer texts most now → IsStuck lexer refusal → RefusesFile number first p.texts bytes refusal
so_far_stuck number first bytes p lexer texts most now refusal r stuck =
    let bad : Token = record { kind = kinds.Bad; at = refusal.at } in
    let no = bad_reading most now.room now.wants now.made refusal.at in
    let refused : read_file first (r.tokens ++ bad ∷ []) (decls_of p) ≡ Refused no.0 1 = sym (r.goes_on (bad ∷ [])) ∙ no.1 in
    record {
      texts = texts;
      tokens = r.tokens ++ bad ∷ [];
      bytes_refused = Some refusal;
      rule = no.0;
      left = 1;
      tokens_are = lexed_up_to number bytes lexer p.texts texts r.tokens (r.tokens ++ bad ∷ []) refusal r.lexed stuck refl;
      wrong = refused_is_wrong first (r.tokens ++ bad ∷ []) (decls_of p) no.0 1 refused;
      is = refl;
    }

-- The file's end.
reading_ends : (most room : ℕ) (k : List Want) (made : Made) → reading most room [] k made ≡ ends k made
reading_ends zero room k made = refl
reading_ends (suc most) room k made = refl

file_ends : (number first : ℕ) (bytes : List ℕ) (p : Parsed) (lexer : spelling.State) (texts : List (List ℕ)) (most : ℕ) (now : State) (ending : Ending) (r : ReadSoFar number first bytes p lexer texts most now)
    → ends now.wants now.made ≡ ending → read_file first r.tokens (decls_of p) ≡ ending
file_ends number first bytes p lexer texts most now ending r e =
    ap (λ all. read_file first all (decls_of p)) (sym (append-nil r.tokens)) ∙ sym (r.goes_on []) ∙ reading_ends most now.room now.wants now.made ∙ e

pub so_far_ended : (number first : ℕ) (bytes : List ℕ) (p : Parsed) (lexer : spelling.State) (texts : List (List ℕ)) (most : ℕ) (now : State) (rule : Rule) (end : Place) (refusal : Refusal)
    → ReadSoFar number first bytes p lexer texts most now → IsOver lexer → ends now.wants now.made ≡ Refused rule 0 → end ≡ behind_bytes lexer.at lexer.rest → refusal ≡ record { rule = rule; at = end }
    → RefusesFile number first p.texts bytes refusal
so_far_ended number first bytes p lexer texts most now rule end refusal r over e end_is is =
    let there : end ≡ behind_bytes (first_place number) bytes = end_is ∙ same_end-all (start number bytes) r.lexed.items lexer r.lexed.reads in
    record {
      texts = texts;
      tokens = r.tokens;
      bytes_refused = None;
      rule = rule;
      left = 0;
      tokens_are = lexed_whole number bytes lexer p.texts texts r.tokens r.lexed over;
      wrong = refused_is_wrong first r.tokens (decls_of p) rule 0 (file_ends number first bytes p lexer texts most now (Refused rule 0) r e);
      is = is ∙ ap (λ at. let x : Refusal = record { rule = rule; at = at } in x) there;
    }

pub so_far_read : (number first : ℕ) (bytes : List ℕ) (p q : Parsed) (lexer : spelling.State) (texts : List (List ℕ)) (most : ℕ) (now : State) (made : Made)
    → ReadSoFar number first bytes p lexer texts most now → IsOver lexer → ends now.wants now.made ≡ Built made → made.decls ≡ decls_of q → q.name ≡ p.name → q.texts ≡ texts
    → ReadsOne number first bytes p q most
so_far_read number first bytes p q lexer texts most now made r over e decls named keeps =
    let accepted = built_is_accepted first r.tokens (decls_of p) made (file_ends number first bytes p lexer texts most now (Built made) r e) in
    let P : List (List ℕ) → Type 0 = λ xs. IsWholeFile number bytes p.texts xs r.tokens in
    let count = r.count in
    record {
      named = named;
      tokens = r.tokens;
      trees = accepted.0;
      read = record { tokens_are = subst P (sym keeps) (lexed_whole number bytes lexer p.texts texts r.tokens r.lexed over); accepted = accepted.1; few = accepted.3 };
      decls_are = sym decls ∙ ap (λ (m : Made). m.decls) accepted.2;
      left_is = omega (arith, count);
    }

-- What answers the next token's faults, and the end's.
pub next_fault : (number first : ℕ) (bytes : List ℕ) (p q : Parsed) (lexer new : spelling.State) (texts grown : List (List ℕ)) (most : ℕ) (now : State) (fault : PhaseFault)
    → ReadSoFar number first bytes p lexer texts most now → AnswersNext lexer texts (Err fault) new grown → AnswersBytes number first bytes p q (Err fault)
next_fault number first bytes p q lexer new texts grown most now (phase.Refused refusal) r stuck = so_far_stuck number first bytes p lexer texts most now refusal r stuck.0
next_fault number first bytes p q lexer new texts grown most now phase.Memory r stuck = tt

pub end_fault : (number first : ℕ) (bytes : List ℕ) (p q : Parsed) (lexer new : spelling.State) (texts grown : List (List ℕ)) (most : ℕ) (now before last : State) (at : Place) (fault : PhaseFault)
    → ReadSoFar number first bytes p lexer texts most now → AnswersNext lexer texts (Ok None) new grown → before ≡ now → at ≡ behind_bytes new.at new.rest → AnswersFileEnd at before last (Err fault) → AnswersBytes number first bytes p q (Err fault)
end_fault number first bytes p q lexer new texts grown most now before last at (phase.Refused refusal) r over same at_is answers =
    so_far_ended number first bytes p lexer texts most now answers.0 at refusal r over.0 (ap (λ (s : State). ends s.wants s.made) (sym same) ∙ answers.1) (at_is ∙ ap (λ (s : spelling.State). behind_bytes s.at s.rest) over.1) answers.2
end_fault number first bytes p q lexer new texts grown most now before last at phase.Memory r over same at_is answers = tt
