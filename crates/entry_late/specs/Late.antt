-- How far a late fault reaches: in V0 an entry of the offset table that another table has otherwise, in V2 a byte of the stream.
use Rattle.std.specs.Prelude.{ℕ, zero, suc, ◌+◌, ◌-◌, ◌*◌, ◌%◌, ◌≤◌, ◌<◌, Bool, true, ◌&&◌, cond, ◌≡◌, List, [], ◌++◌, ltb, eqb, length, get_or, take}
use Rattle.rules.specs.declared.answer.Size.{Size}
use Rattle.rules.specs.declared.reader.Bits.{Bits}
use Rattle.rules.specs.declared.v2.V2Hdr.{V2Hdr}
use Rattle.rules.specs.Frame.{cells}
use Rattle.rules.specs.Reader.{read}
use Rattle.rules.specs.Missing.{fetches}
use Rattle.rules.specs.V2.{header, aligned, read_row}

-- Place i of a frame lies in a row before row n.
pub record Above (n : ℕ) (z : Size) (i : ℕ) : Type 0 where
  pub row : i < n * z.width
  pub frame : i < cells z

-- ── V0 ──

-- Two offset tables that agree before entry r.
abbrev pub AgreeBefore : ℕ → List ℕ → List ℕ → Type 0
AgreeBefore r o o' = (i : ℕ) → i < r → get_or o i 0 ≡ get_or o' i 0

-- How many rows stand then: the exchange joins rows in pairs, so that of an odd r the last row goes with the one below it.
abbrev pub whole_pairs : ℕ → ℕ
whole_pairs r = r - r % 2

-- ── V2 ──

-- Two streams of at least p bytes that agree in the first p.
pub record AgreeIn (p : ℕ) (s t : List ℕ) : Type 0 where
  pub long : p ≤ length s
  pub long' : p ≤ length t
  pub same : take p s ≡ take p t

-- The bytes that a header takes: four words.
abbrev pub header_bytes : ℕ
header_bytes = 16

-- Whether a reader that has gone from b to c by reads alone fetched a word that doesn't lie wholly below p. Every word moves its
-- position on by 4, so the last word ends where c stands; if c stands where b stood, there was none.
unfoldable pub fetched_past : ℕ → Bits → Bits → Bool
fetched_past p b c = ltb b.pos c.pos && ltb p c.pos

-- The first of k rows from a row on that fetches such a word; the row after them if none does, also where 5, 6 or 7 ends the frame
-- before. A row reads from its start, `aligned`, on.
unfoldable pub first_past_from : ℕ → List ℕ → V2Hdr → ℕ → ℕ → ℕ → Bits → ℕ
first_past_from p s h w zero row b = row
first_past_from p s h w (suc k) row b =
    let q = read_row s h w row b in
    cond (fetched_past p (aligned b) q.bits) row
    (cond (eqb q.number 0) (first_past_from p s h w k (suc row) q.bits) (row + suc k))

-- The first row of a frame that fetches a word not wholly below p, or its height if none does.
unfoldable pub first_past : ℕ → List ℕ → Size → ℕ
first_past p s z =
    let x = header s in
    first_past_from p s x.value z.width z.height 0 x.bits

-- ── What the definition is held against ──

-- The reader's state after n rows from a row on, and whether none of them met 5, 6 or 7.
unfoldable pub state_after : List ℕ → V2Hdr → ℕ → ℕ → ℕ → Bits → Bits
state_after s h w row zero b = b
state_after s h w row (suc n) b = state_after s h w (suc row) n (read_row s h w row b).bits

unfoldable pub none_refused : List ℕ → V2Hdr → ℕ → ℕ → ℕ → Bits → Bool
none_refused s h w row zero b = true
none_refused s h w row (suc n) b =
    let q = read_row s h w row b in
    eqb q.number 0 && none_refused s h w (suc row) n q.bits

-- A reader that goes by reads from one state to another, and the positions of the words that it fetches.
pub data Reads (s : List ℕ) : Bits → List ℕ → Bits → Type 0 where
  stay : {b : Bits} → Reads s b [] b
  reads : {b c : Bits} {ps : List ℕ} (n : ℕ) → Reads s (read s b n).bits ps c → Reads s b (fetches b n ++ ps) c
