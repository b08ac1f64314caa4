-- Why a tree is not built.
use Rattle.std.proofs.Common.{◌≡◌, ℕ, zero, suc, ◌<◌, ◌≤◌, List, [], ◌∷◌, ◌++◌, map, length, take, drop, get_or, sym, ◌∙◌, ap, subst, arith, append_assoc, length-append}
use Rattle.std.specs.Prelude.{Result, Ok, Err, IfErr, OnErr}
use Rattle.std.proofs.lemmas.List.{take-append-drop}
use Rattle.std.proofs.lemmas.List.Folds.{length-flat_map-take}
use Rattle.rowan_green.specs.declared.fault.Fault.{Fault}
use Rattle.rowan_green.specs.declared.fault.Fault.TheVariants.{TextTooLong, TooManyChildren, CheckpointPast, CheckpointBefore, NothingOpen, NotOneElement, NotANode, OtherKind, NotFound, Memory, UnknownMark, NotOneList}
use Rattle.rowan_green.specs.Fits.{byte_limit, PassesLimit}
use Rattle.rowan_green.proofs.Terms.{sum_of_lens-append, length-joined_text}
use Rattle.rowan_terms.proofs.ItemLemmas.{whole_terms-open}
use Rattle.rowan_terms.proofs.Words.{parts-unique, word_text-parts}
use Rattle.rowan_green.specs.Term.{Term, joined_text, sum_of_lens}
use Rattle.rowan_green.specs.Word.{Symbol, Close, Item, Bare, Whole, HasParts, word_text, whole_terms, WhyNoToken, WhyNotClosed, WhyUnfinished}
use Rattle.rowan_green.specs.declared.utility_types.NodeOrToken.TheVariants.{Node}
use Rattle.rowan_green.specs.declared.utility_types.NodeOrToken.TheVariants as term
use Rattle.rowan_parser.specs.Building.{WhyRefused, WhyNotPut, bare_count, IsBuilding, IsBuilt, to_come}
use Rattle.rowan_parser.specs.Events.{closings, leaves, spelled_by}
use Rattle.rowan_parser.specs.Shape.{Step, Exit}
use Rattle.rowan_events.specs.Tokens.{tokens_text}
use Rattle.rowan_events.specs.declared.lexer.Token.{Token}
use Rattle.rowan_parser.specs.declared.tree.Progress.{Progress}
use Rattle.rowan_parser.specs.declared.tree.Source.{Source}
use Rattle.rowan_parser.proofs.Steps.{bare_count-map, tokens_text-append, IsBuilt-terms}

-- ---- from one refusal to another

pub not_put_refuses : (w : List Symbol) (ts : List Token) (f : Fault) → WhyNotPut ts f → WhyRefused
    w ts f
not_put_refuses w ts TextTooLong k = k
not_put_refuses w ts Memory k = tt
not_put_refuses w ts TooManyChildren k = absurd k
not_put_refuses w ts CheckpointPast k = k
not_put_refuses w ts CheckpointBefore k = k
not_put_refuses w ts NothingOpen k = k
not_put_refuses w ts NotOneElement k = k
not_put_refuses w ts NotANode k = k
not_put_refuses w ts OtherKind k = k
not_put_refuses w ts NotFound k = k
not_put_refuses w ts UnknownMark k = k
not_put_refuses w ts NotOneList k = k

-- a longer word
pub longer_refuses : (v more w : List Symbol) (ts : List Token) (f : Fault) → v ++ more ≡ w →
    WhyRefused v ts f → WhyRefused w ts f
longer_refuses v more w ts f e why = subst (λ u. WhyRefused u ts f) e (refused f why)
  where
    refused : (g : Fault) → WhyRefused v ts g → WhyRefused (v ++ more) ts g
    refused TextTooLong k = k
    refused TooManyChildren k = record {
      before = k.before;
      after = k.after ++ more;
      ends = ap (λ (s : List Symbol). s ++ more) k.ends
          ∙ append_assoc k.before (Close ∷ k.after) more;
      passes = k.passes;
    }
    refused Memory k = tt
    refused CheckpointPast k = k
    refused CheckpointBefore k = k
    refused NothingOpen k = k
    refused NotOneElement k = k
    refused NotANode k = k
    refused OtherKind k = k
    refused NotFound k = k
    refused UnknownMark k = k
    refused NotOneList k = k

-- ---- a closing, with what follows

pub close_refuses : (source : Source) (others : List Step) (u : List Symbol) (p : Progress)
    (f : Fault) → 0 < p.depth → WhyRefused (u ++ Close ∷ []) source.tokens.now f → WhyRefused
    (to_come source u p (Exit ∷ others)) source.tokens.now f
close_refuses source others u p f some why = by p.depth some
  where
    by : (n : ℕ) → 0 < n → WhyRefused (u ++ spelled_by source.trivia n (Exit ∷ others)
        (drop p.put source.tokens.now)) source.tokens.now f
    by zero some = absurd (omega (arith, some))
    by (suc n) some =
        let more = spelled_by source.trivia n others (drop p.put source.tokens.now) in
        longer_refuses (u ++ Close ∷ []) more (u ++ Close ∷ more) source.tokens.now f
        (append_assoc u (Close ∷ []) more) why

pub close_refuses_if : {A : Type 0} (r : Result A Fault) (source : Source) (others : List Step)
    (u : List Symbol) (p : Progress)
    → OnErr r (0 < p.depth)
    → IfErr r (WhyRefused (u ++ Close ∷ []) source.tokens.now)
    → IfErr r (WhyRefused (to_come source u p (Exit ∷ others)) source.tokens.now)
close_refuses_if (Ok x) source others u p some why = why
close_refuses_if (Err f) source others u p some why = close_refuses source others u p f some why

pub closing_refuses : (n : ℕ) (u v : List Symbol) (ts : List Token) (f : Fault) → 0 < n → v ++
    closings n ≡ u → WhyRefused (v ++ Close ∷ []) ts f → WhyRefused u ts f
closing_refuses zero u v ts f some e why = absurd (omega (arith, some))
closing_refuses (suc n) u v ts f some e why = longer_refuses (v ++ Close ∷ []) (closings n) u ts f
    (append_assoc v (Close ∷ []) (closings n) ∙ e) why

pub closings_refuse : (source : Source) (steps : List Step) (u : List Symbol) (p : Progress)
    (f : Fault) → steps ≡ [] → WhyRefused (u ++ closings p.depth) source.tokens.now f → WhyRefused
    (to_come source u p steps) source.tokens.now f
closings_refuse source steps u p f none why =
    let rest = leaves (drop p.put source.tokens.now) in
    longer_refuses (u ++ closings p.depth) rest (to_come source u p steps) source.tokens.now f
    (append_assoc u (closings p.depth) rest ∙ ap (to_come source u p) (sym none)) why

-- ---- a token

pub token_not_put : (ts : List Token) (put : ℕ) (t : Token) (f : Fault) → put < length ts → t ≡
    get_or ts put t → WhyNoToken t.text.now f → WhyNotPut ts f
token_not_put ts put t f some is why = refused f why
  where
    refused : (g : Fault) → WhyNoToken t.text.now g → WhyNotPut ts g
    refused TextTooLong k =
        omega (
          arith,
          k,
          ap (λ (u : Token). length u.text.now) is,
          length-flat_map-take
              (λ (u : Token). u.text.now) ts put t some,
        )
    refused Memory k = tt
    refused TooManyChildren k = k
    refused CheckpointPast k = k
    refused CheckpointBefore k = k
    refused NothingOpen k = k
    refused NotOneElement k = k
    refused NotANode k = k
    refused OtherKind k = k
    refused NotFound k = k
    refused UnknownMark k = k
    refused NotOneList k = k

-- some of the tokens
pub part_not_put : (ts us : List Token) (f : Fault) → length (tokens_text us) ≤ length
    (tokens_text ts) → WhyNotPut us f → WhyNotPut ts f
part_not_put ts us f within why = refused f why
  where
    refused : (g : Fault) → WhyNotPut us g → WhyNotPut ts g
    refused TextTooLong k = omega (arith, k, within)
    refused Memory k = tt
    refused TooManyChildren k = k
    refused CheckpointPast k = k
    refused CheckpointBefore k = k
    refused NothingOpen k = k
    refused NotOneElement k = k
    refused NotANode k = k
    refused OtherKind k = k
    refused NotFound k = k
    refused UnknownMark k = k
    refused NotOneList k = k

-- ---- a node

-- what is put is part of the text
put_le-text : (source : Source) (w : List Symbol) (p : Progress) → IsBuilding source w p → length
    (word_text w) ≤ length (tokens_text source.tokens.now)
put_le-text source w p h =
    let ts = source.tokens.now in
    omega (
      arith,
      ap length h.text,
      ap length (ap tokens_text (sym (take-append-drop p.put ts)) ∙ tokens_text-append
          (take p.put ts) (drop p.put ts)),
      length-append (tokens_text (take p.put ts)) (tokens_text (drop p.put ts)),
    )

-- the children of a node that is open are part of what is put
children_le-text : (w : List Symbol) (before : List Item) (k : ℕ) (ts : List Term) → HasParts w
    (before ++ Bare k ∷ map Whole ts) → sum_of_lens ts ≤ length (word_text w)
children_le-text w before k ts h =
    omega (
      arith,
      ap length (word_text-parts w (before ++ Bare k ∷ map Whole ts) h ∙ ap joined_text
          (whole_terms-open before k ts)),
      length-joined_text (whole_terms before ++ ts),
      sum_of_lens-append (whole_terms before) ts,
    )

passes-text : (ts : List Term) → PassesLimit ts TextTooLong → byte_limit < sum_of_lens ts
passes-text ts h = omega (
  arith,
  h.passes.1,
  ap sum_of_lens h.parts,
  sum_of_lens-append h.before
      (h.child ∷ h.after),
)

-- a node is closed unless a limit is passed: the root is open
pub closed_unless : (source : Source) (w word : List Symbol) (p : Progress) (f : Fault)
    → IsBuilding source w p
    → w ++ Close ∷ [] ≡ word
    → WhyNotClosed w f
    → WhyRefused word source.tokens.now f
closed_unless source w word p f h e why = refused f why
  where
    refused : (g : Fault) → WhyNotClosed w g → WhyRefused word source.tokens.now g
    refused NothingOpen k = absurd (omega (
      arith,
      ap bare_count
          (parts-unique w (Bare source.root_kind.0 ∷ h.items) (map Whole k.wholes) h.parts k.parts),
      bare_count-map
          k.wholes,
    ))
    refused TooManyChildren k = record { before = w; after = []; ends = sym e; passes = k }
    refused TextTooLong k = omega (
      arith,
      passes-text k.children k.passes,
      children_le-text w
          k.before k.kind k.children k.parts,
      put_le-text source w p h,
    )
    refused Memory k = tt
    refused CheckpointPast k = k
    refused CheckpointBefore k = k
    refused NotOneElement k = k
    refused NotANode k = k
    refused OtherKind k = k
    refused NotFound k = k
    refused UnknownMark k = k
    refused NotOneList k = k

-- ---- what is built is finished

pub IsBuilt-finishes : (root : ℕ) (w : List Symbol) (f : Fault) → IsBuilt root w → WhyUnfinished w
    f → ⊥
IsBuilt-finishes root w f h why = refuted f why
  where
    refuted : (g : Fault) → WhyUnfinished w g → ⊥
    refuted NotOneElement k = k.2 (ap length (IsBuilt-terms root w k.0 h k.1))
    refuted NotANode k = let e = IsBuilt-terms root w (term.Token k.0 ∷ []) h k.1 in cc
    refuted TextTooLong k = k
    refuted TooManyChildren k = k
    refuted CheckpointPast k = k
    refuted CheckpointBefore k = k
    refuted NothingOpen k = k
    refuted OtherKind k = k
    refuted NotFound k = k
    refuted Memory k = k
    refuted UnknownMark k = k
    refuted NotOneList k = k
