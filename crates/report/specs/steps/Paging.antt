-- Text that is written through a page.
use Rattle.std.specs.Prelude.{◌≡◌, ◌++◌, Bool, true, false, List, [], Option, Result, MatchResult, is_err}
use Rattle.std.specs.List.{flat_map}
use Rattle.std.specs.Io.KnownBytes.{Appends}
use Rattle.devices.specs.declared.counted.Counted.{Counted}
use Rattle.devices.specs.declared.failures.Failures.{Failures}
use Rattle.devices.specs.Counting.{AppendsBuffered, AppendsPrefix, one_failure}
use Rattle.nft_tree.specs.Tree.{Text}
use Rattle.report.specs.declared.page.Page.{Page}
use Rattle.report.specs.declared.piece.Piece.{Piece}
use Rattle.report.specs.declared.piece.Piece.TheVariants as pieces
use Rattle.report.specs.Report.{and_word, and_number}

abbrev pub piece_text : Piece → Text
piece_text (pieces.Text text) = text.now
piece_text (pieces.Word text) = and_word text.now
piece_text (pieces.Number n) = and_number n

abbrev pub pieces_text : List Piece → Text
pieces_text parts = flat_map piece_text parts

-- by whether a write had failed, and whether one has failed now: a text is appended behind the buffered bytes; or a write fails, is
-- counted, and leaves a prefix of both; or nothing is called, since one failed before
abbrev pub Goes : Bool → Bool → Text → Option Text → Text → Option Text → Failures → Failures → Text → Type 0
Goes false false before old after new fails fails' text = AppendsBuffered before old new after text × (fails' ≡ fails)
Goes false true before old after new fails fails' text = AppendsPrefix old new (before ++ text) × (fails' ≡ one_failure fails)
Goes true failed before old after new fails fails' text = (failed ≡ true) × (new ≡ old) × (fails' ≡ fails)

-- a text is put through a page, to a writer with these known bytes
pub record Puts {W : Type 0} (contents : W → Option Text) (p : Page) (w : Counted W) (q : Page) (x : Counted W) (text : Text) : Type 0 where
  pub goes : Goes p.failed q.failed p.text.items (contents w.inner) q.text.items (contents x.inner) w.failures x.failures text
  pub flushes : x.flushes ≡ w.flushes

-- all of a text is put but this rest
pub record PutsAllBut {W : Type 0} (contents : W → Option Text) (p : Page) (w : Counted W) (q : Page) (x : Counted W) (rest whole : Text)
    : Type 0 where
  pub part : Text
  pub is : part ++ rest ≡ whole
  pub puts : Puts contents p w q x part

-- a text is written, or a prefix of it where a write fails
abbrev pub WroteText : {T E : Type 0} → Result T E → Option Text → Option Text → Text → Type 0
WroteText r old new text = MatchResult r (λ _. Appends old new text) (λ _. AppendsPrefix old new text)

-- what waits on the page is written, unless a write failed, now or before
pub record IsSent {W T E : Type 0} (contents : W → Option Text) (r : Result T E) (p : Page) (w x : Counted W) : Type 0 where
  pub sends : Goes p.failed (is_err r) p.text.items (contents w.inner) [] (contents x.inner) w.failures x.failures []
  pub flushes : x.flushes ≡ w.flushes
