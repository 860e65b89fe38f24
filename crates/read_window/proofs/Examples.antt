-- Worked examples of the definitions, on three words: A0000000, 87654321 and 0F1E2D3C.
use Prim.Native.Nat.{ℕ}
use mathlib.Core.Bool.{true, false}
use mathlib.Core.Path.{◌≡◌, refl}
use mathlib.Core.List.{List, [], ◌∷◌, map}
use Rattle.rules.specs.declared.reader.Bits.{Bits}
use Rattle.read_window.specs.Window.{bit, bits_from, values_at, span, state_at, stands_in}

abbrev words : List ℕ
words = 0x00 ∷ 0x00 ∷ 0x00 ∷ 0xA0 ∷ 0x21 ∷ 0x43 ∷ 0x65 ∷ 0x87 ∷ 0x3C ∷ 0x2D ∷ 0x1E ∷ 0x0F ∷ []

abbrev bits : ℕ → ℕ → ℕ → ℕ → Bits
bits p w c n = record { pos = p; word = w; count = c; filler = n }

-- A word's highest bit comes first, its lowest last; then the next word's highest.
pub single_bits : map (bit words 0) (0 ∷ 1 ∷ 2 ∷ 3 ∷ 31 ∷ 32 ∷ 33 ∷ 63 ∷ 64 ∷ []) ≡ 1 ∷ 0 ∷ 1 ∷ 0 ∷ 0 ∷ 1 ∷ 0 ∷ 1 ∷ 0 ∷ []
unfolding bit
single_bits = refl

-- No bits, some of one word, some of two, a window of three; and bits that count from another word.
pub numbers : bits_from words 0 5 0 ∷ bits_from words 0 36 8 ∷ bits_from words 0 28 12 ∷ bits_from words 0 8 64 ∷ bits_from words 4 28 12 ∷ []
    ≡ 0 ∷ 0x76 ∷ 0x087 ∷ 0x0000_0087_6543_210F ∷ 0x10F ∷ []
unfolding bits_from bit
numbers = refl

-- Fields one after another, one of no bits among them.
pub fields : values_at words 0 28 (8 ∷ 0 ∷ 4 ∷ 12 ∷ []) ≡ 0x08 ∷ 0 ∷ 0x7 ∷ 0x654 ∷ []
unfolding values_at bits_from bit
fields = refl

pub widths : span (8 ∷ 0 ∷ 4 ∷ 12 ∷ []) ≡ 24
unfolding span
widths = refl

-- Before bit 32 a word is read to its end, and the next is not yet fetched; before bit 33 one bit of it is read.
pub states : state_at words 0 32 7 ∷ state_at words 0 33 7 ∷ state_at words 4 1 0 ∷ state_at words 4 33 0 ∷ []
    ≡ bits 4 0xA000_0000 0 7 ∷ bits 8 0x8765_4321 31 7 ∷ bits 8 0x8765_4321 31 0 ∷ bits 12 0x0F1E_2D3C 31 0 ∷ []
states = refl

-- Room for all that is asked, to the byte; whatever was missing before.
pub standing : stands_in words (bits 4 0xA000_0000 31 0) 12 ∷ stands_in words (bits 8 0x8765_4321 0 7) 8 ∷ [] ≡ true ∷ true ∷ []
unfolding stands_in
standing = refl

-- 32 bits held; no word fetched; one byte too few; another word.
pub not_standing : stands_in words (bits 4 0xA000_0000 32 0) 12 ∷ stands_in words (bits 3 0 0 0) 4 ∷ stands_in words (bits 8 0x8765_4321 0 0) 9
    ∷ stands_in words (bits 8 0x8765_4322 0 0) 8 ∷ []
    ≡ false ∷ false ∷ false ∷ false ∷ []
unfolding stands_in
not_standing = refl
