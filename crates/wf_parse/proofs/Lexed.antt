-- What a loop over the tokens of a file keeps.
use Rattle.std.proofs.Common.{◌≡◌, ℕ, Some, None, List, [], ◌∷◌, ◌++◌, sym, ◌∙◌, ap, subst, arith, length-append, append_assoc}
use Rattle.std.specs.List.{slice_get}
use Rattle.std.proofs.lemmas.Option.{slice_get_within}
use Rattle.wf_text.specs.declared.rules.Refusal.{Refusal}
use Rattle.wf_ast.proofs.TreeLemmas.{slice_get-front}
use Rattle.wf_parse_grammar.specs.declared.tokens.Kind.{Kind}
use Rattle.wf_parse_grammar.specs.declared.tokens.Kind.TheVariants as kinds
use Rattle.wf_parse_grammar.specs.declared.tokens.Token.{Token}
use Rattle.wf_tokens.specs.declared.kinds.TokenKind.{TokenKind}
use Rattle.wf_tokens.specs.declared.kinds.TokenKind.TheVariants as spelt
use Rattle.wf_tokens.specs.Spelling.{State, Item, Reads, IsStuck, IsOver, start}
use Rattle.wf_tokens.proofs.ReadingOn.{reads_more}
use Rattle.wf_parse.specs.Kinds.{KindIs}
use Rattle.wf_parse.specs.Lexing.{TokenIs, TokensAre, IsWholeFile, IsFileUpTo, LexedSoFar, ReadsToken, ReadsRest}
use Rattle.wf_parse.specs.Texts.{text_of, with_text}
use Rattle.wf_parse.proofs.TextNumbers.{with_text-grows, texts_behind-more}

-- A text keeps its number while texts are added.
stays : (texts more : List (List ℕ)) (i : ℕ) (text : List ℕ) → slice_get texts i ≡ Some text → slice_get (texts ++ more) i ≡ Some text
stays texts more i text g = slice_get-front texts more i (slice_get_within texts i text g) ∙ g

kind_stays : (texts more : List (List ℕ)) (k : TokenKind) (text : List ℕ) (kind : Kind) → KindIs texts k text kind → KindIs (texts ++ more) k text kind
kind_stays texts more spelt.Name text kind h = (h.0, h.1, stays texts more h.0.0 _ h.2)
kind_stays texts more (spelt.Number value) text kind h = h
kind_stays texts more spelt.Text text kind h = (h.0, h.1, stays texts more h.0.0 _ h.2)
kind_stays texts more (spelt.Keyword word) text kind h = h
kind_stays texts more (spelt.Symbol symbol) text kind h = h

pub tokens_stay : (texts more : List (List ℕ)) (items : List Item) (tokens : List Token) → TokensAre texts items tokens → TokensAre (texts ++ more) items tokens
tokens_stay texts more [] [] h = tt
tokens_stay texts more [] (t ∷ ts) h = absurd h
tokens_stay texts more (item ∷ items) [] h = absurd h
tokens_stay texts more (item ∷ items) (t ∷ ts) h =
    let head : TokenIs (texts ++ more) item t = record { at = h.0.at; kind = kind_stays texts more item.kind item.text t.kind h.0.kind } in
    (head, tokens_stay texts more items ts h.1)

tokens_push : (texts : List (List ℕ)) (items : List Item) (tokens : List Token) (item : Item) (t : Token) → TokensAre texts items tokens → TokenIs texts item t → TokensAre texts (items ++ item ∷ []) (tokens ++ t ∷ [])
tokens_push texts [] [] item t h is = (is, tt)
tokens_push texts [] (x ∷ tokens) item t h is = absurd h
tokens_push texts (x ∷ items) [] item t h is = absurd h
tokens_push texts (x ∷ items) (y ∷ tokens) item t h is = (h.0, tokens_push texts items tokens item t h.1 is)

-- One token more.
pub lexed_more : (file : ℕ) (bytes : List ℕ) (old new : State) (known texts grown : List (List ℕ)) (tokens longer : List Token) (item : Item) (t : Token)
    → LexedSoFar file bytes old known texts tokens → Reads old item new → grown ≡ with_text texts (text_of item.kind item.text) → TokenIs grown item t → longer ≡ tokens ++ t ∷ [] → LexedSoFar file bytes new known grown longer
lexed_more file bytes old new known texts grown tokens longer item t l r g is e =
    let P : List (List ℕ) → Type 0 = λ xs. TokensAre xs l.items tokens in
    let more = with_text-grows texts (text_of item.kind item.text) in
    let front : TokensAre grown l.items tokens = subst P (sym (g ∙ more.1)) (tokens_stay texts more.0 l.items tokens l.tokens_are) in
    let Q : List Token → Type 0 = TokensAre grown (l.items ++ item ∷ []) in
    record {
      items = l.items ++ item ∷ [];
      reads = reads_more (start file bytes) l.items old item new l.reads r;
      texts_are = g ∙ ap (λ xs. with_text xs (text_of item.kind item.text)) l.texts_are ∙ sym (texts_behind-more known l.items item);
      tokens_are = subst Q (sym e) (tokens_push grown l.items tokens item t front is);
    }

-- The whole file.
pub lexed_whole : (file : ℕ) (bytes : List ℕ) (last : State) (known texts : List (List ℕ)) (tokens : List Token) → LexedSoFar file bytes last known texts tokens → IsOver last → IsWholeFile file bytes known texts tokens
lexed_whole file bytes last known texts tokens l over = record { items = l.items; spelt = record { last = last; reads = l.reads; over = over }; texts_are = l.texts_are; tokens_are = l.tokens_are }

-- Up to bytes that are no token.
pub lexed_up_to : (file : ℕ) (bytes : List ℕ) (last : State) (known texts : List (List ℕ)) (tokens longer : List Token) (refusal : Refusal) → LexedSoFar file bytes last known texts tokens → IsStuck last refusal
    → longer ≡ tokens ++ record { kind = kinds.Bad; at = refusal.at } ∷ [] → IsFileUpTo file bytes known texts longer refusal
lexed_up_to file bytes last known texts tokens longer refusal l stuck e = record { items = l.items; front = tokens; spelt = record { last = last; reads = l.reads; stuck = stuck }; texts_are = l.texts_are; tokens_are = l.tokens_are; whole = e }

-- What is passed over, after whatever is read before it.
pub record PassedSoFar (old now : State) (known texts : List (List ℕ)) : Type 0 where
  pub tokens : List Token
  pub on : (file : ℕ) (bytes : List ℕ) (first : List (List ℕ)) (front : List Token) → LexedSoFar file bytes old first known front → LexedSoFar file bytes now first texts (front ++ tokens)

pub passed_more : (old now new : State) (known texts grown : List (List ℕ)) (t : Token) → PassedSoFar old now known texts → ReadsToken now texts t new grown → PassedSoFar old new known grown
passed_more old now new known texts grown t p r = record {
  tokens = p.tokens ++ t ∷ [];
  on = λ file bytes first front l. lexed_more file bytes now new first texts grown (front ++ p.tokens) (front ++ (p.tokens ++ t ∷ [])) r.item t (p.on file bytes first front l) r.reads r.texts_are r.is (sym (append_assoc front p.tokens (t ∷ [])));
}

pub passed_over : (old now : State) (known texts after : List (List ℕ)) → PassedSoFar old now known texts → IsOver now × (after ≡ texts) → ReadsRest old known after
passed_over old now known texts after p over =
    let P : List (List ℕ) → Type 0 = ReadsRest old known in
    let rest : ReadsRest old known texts = record {
      tokens = p.tokens;
      refused = None;
      last = tt;
      whole = λ file bytes first front l. lexed_whole file bytes now first texts (front ++ p.tokens) (p.on file bytes first front l) over.0;
    } in
    subst P (sym over.1) rest

pub passed_stuck : (old now : State) (known texts after : List (List ℕ)) (refusal : Refusal) → PassedSoFar old now known texts → IsStuck now refusal × (after ≡ texts) → ReadsRest old known after
passed_stuck old now known texts after refusal p stuck =
    let bad : Token = record { kind = kinds.Bad; at = refusal.at } in
    let long = length-append p.tokens (bad ∷ []) in
    let P : List (List ℕ) → Type 0 = ReadsRest old known in
    let rest : ReadsRest old known texts = record {
      tokens = p.tokens ++ bad ∷ [];
      refused = Some refusal;
      last = omega (arith, long);
      whole = λ file bytes first front l. lexed_up_to file bytes now first texts (front ++ p.tokens) (front ++ (p.tokens ++ bad ∷ [])) refusal (p.on file bytes first front l) stuck.0 (sym (append_assoc front p.tokens (bad ∷ [])));
    } in
    subst P (sym stuck.1) rest
