-- Bytes that a rule gives, and a byte whose bits a test gives.
use Rattle.std.specs.Prelude.{ℕ, ◌^◌, Bool, List, map, if◌then◌else◌}
use Rattle.std.specs.List.{range_with_len, sum_by}

-- n bytes, of which byte i is what the rule gives for i. The word stays closed in proofs, since it would open into as
-- many bytes.
unfoldable pub bytes_by : (ℕ → ℕ) → ℕ → List ℕ
bytes_by rule n = map rule (range_with_len 0 n)

-- the byte whose bit k, the lowest first, is 1 exactly where the test holds of k
unfoldable pub byte_where : (ℕ → Bool) → ℕ
byte_where test = sum_by (λ k. if test k then 2 ^ k else 0) (range_with_len 0 8)
