-- A row from its columns.
use Rattle.std.proofs.Common.{◌≡◌, [], ◌∷◌, length, arith}
use Rattle.sqlite_value.specs.declared.value.Value.{Value}
use Rattle.sqlite_value.specs.Order.{Row, column}

pub columns_4 : (row : Row) (a b c d : Value) → length row ≡ 4 → column row 0 ≡ a → column row 1 ≡ b
    → column row 2 ≡ c → column row 3 ≡ d → (a ∷ b ∷ c ∷ d ∷ []) ≡ row
columns_4 [] a b c d len h0 h1 h2 h3 = absurd (omega arith)
columns_4 (x0 ∷ []) a b c d len h0 h1 h2 h3 = absurd (omega arith)
columns_4 (x0 ∷ x1 ∷ []) a b c d len h0 h1 h2 h3 = absurd (omega arith)
columns_4 (x0 ∷ x1 ∷ x2 ∷ []) a b c d len h0 h1 h2 h3 = absurd (omega arith)
columns_4 (x0 ∷ x1 ∷ x2 ∷ x3 ∷ []) a b c d len h0 h1 h2 h3 = cc
columns_4 (x0 ∷ x1 ∷ x2 ∷ x3 ∷ x ∷ more) a b c d len h0 h1 h2 h3 = absurd (omega arith)

pub columns_5 : (row : Row) (a b c d e : Value) → length row ≡ 5 → column row 0 ≡ a
    → column row 1 ≡ b → column row 2 ≡ c → column row 3 ≡ d → column row 4 ≡ e
    → (a ∷ b ∷ c ∷ d ∷ e ∷ []) ≡ row
columns_5 [] a b c d e len h0 h1 h2 h3 h4 = absurd (omega arith)
columns_5 (x0 ∷ []) a b c d e len h0 h1 h2 h3 h4 = absurd (omega arith)
columns_5 (x0 ∷ x1 ∷ []) a b c d e len h0 h1 h2 h3 h4 = absurd (omega arith)
columns_5 (x0 ∷ x1 ∷ x2 ∷ []) a b c d e len h0 h1 h2 h3 h4 = absurd (omega arith)
columns_5 (x0 ∷ x1 ∷ x2 ∷ x3 ∷ []) a b c d e len h0 h1 h2 h3 h4 = absurd (omega arith)
columns_5 (x0 ∷ x1 ∷ x2 ∷ x3 ∷ x4 ∷ []) a b c d e len h0 h1 h2 h3 h4 = cc
columns_5 (x0 ∷ x1 ∷ x2 ∷ x3 ∷ x4 ∷ x ∷ more) a b c d e len h0 h1 h2 h3 h4 = absurd (omega arith)

pub columns_6 : (row : Row) (a b c d e f : Value) → length row ≡ 6 → column row 0 ≡ a
    → column row 1 ≡ b → column row 2 ≡ c → column row 3 ≡ d → column row 4 ≡ e → column row 5 ≡ f
    → (a ∷ b ∷ c ∷ d ∷ e ∷ f ∷ []) ≡ row
columns_6 [] a b c d e f len h0 h1 h2 h3 h4 h5 = absurd (omega arith)
columns_6 (x0 ∷ []) a b c d e f len h0 h1 h2 h3 h4 h5 = absurd (omega arith)
columns_6 (x0 ∷ x1 ∷ []) a b c d e f len h0 h1 h2 h3 h4 h5 = absurd (omega arith)
columns_6 (x0 ∷ x1 ∷ x2 ∷ []) a b c d e f len h0 h1 h2 h3 h4 h5 = absurd (omega arith)
columns_6 (x0 ∷ x1 ∷ x2 ∷ x3 ∷ []) a b c d e f len h0 h1 h2 h3 h4 h5 = absurd (omega arith)
columns_6 (x0 ∷ x1 ∷ x2 ∷ x3 ∷ x4 ∷ []) a b c d e f len h0 h1 h2 h3 h4 h5 = absurd (omega arith)
columns_6 (x0 ∷ x1 ∷ x2 ∷ x3 ∷ x4 ∷ x5 ∷ []) a b c d e f len h0 h1 h2 h3 h4 h5 = cc
columns_6 (x0 ∷ x1 ∷ x2 ∷ x3 ∷ x4 ∷ x5 ∷ x ∷ more) a b c d e f len h0 h1 h2 h3 h4 h5 =
    absurd (omega arith)

pub columns_7 : (row : Row) (a b c d e f g : Value) → length row ≡ 7 → column row 0 ≡ a
    → column row 1 ≡ b → column row 2 ≡ c → column row 3 ≡ d → column row 4 ≡ e → column row 5 ≡ f
    → column row 6 ≡ g → (a ∷ b ∷ c ∷ d ∷ e ∷ f ∷ g ∷ []) ≡ row
columns_7 [] a b c d e f g len h0 h1 h2 h3 h4 h5 h6 = absurd (omega arith)
columns_7 (x0 ∷ []) a b c d e f g len h0 h1 h2 h3 h4 h5 h6 = absurd (omega arith)
columns_7 (x0 ∷ x1 ∷ []) a b c d e f g len h0 h1 h2 h3 h4 h5 h6 = absurd (omega arith)
columns_7 (x0 ∷ x1 ∷ x2 ∷ []) a b c d e f g len h0 h1 h2 h3 h4 h5 h6 = absurd (omega arith)
columns_7 (x0 ∷ x1 ∷ x2 ∷ x3 ∷ []) a b c d e f g len h0 h1 h2 h3 h4 h5 h6 = absurd (omega arith)
columns_7 (x0 ∷ x1 ∷ x2 ∷ x3 ∷ x4 ∷ []) a b c d e f g len h0 h1 h2 h3 h4 h5 h6 =
    absurd (omega arith)
columns_7 (x0 ∷ x1 ∷ x2 ∷ x3 ∷ x4 ∷ x5 ∷ []) a b c d e f g len h0 h1 h2 h3 h4 h5 h6 =
    absurd (omega arith)
columns_7 (x0 ∷ x1 ∷ x2 ∷ x3 ∷ x4 ∷ x5 ∷ x6 ∷ []) a b c d e f g len h0 h1 h2 h3 h4 h5 h6 = cc
columns_7 (x0 ∷ x1 ∷ x2 ∷ x3 ∷ x4 ∷ x5 ∷ x6 ∷ x ∷ more) a b c d e f g len h0 h1 h2 h3 h4 h5 h6 =
    absurd (omega arith)
