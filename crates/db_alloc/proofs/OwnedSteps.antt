-- The chain of an object and its allocated pages, in one row of words.
use Rattle.std.proofs.Common.{◌≡◌, ℕ, List, sym, ◌∙◌}
use Rattle.spec_file.specs.CatalogRows.{CatalogRow}
use Rattle.spec_words.specs.NetChanges.{FileShape}
use Rattle.spec_words.specs.Views.{Plan}
use Rattle.spec_words.specs.Words.{◌then◌, give, sees}
use Rattle.spec_words.specs.Tables.{chain_of, byte_pages, bytes_read, object_pages}
use Rattle.db_alloc.specs.Drops.{owned_read}
use Rattle.db_alloc.proofs.Steps.{then_assoc, then_same, give_then}

abbrev pub objects_found : FileShape → List ℕ → Plan (List ℕ × List ℕ)
objects_found shape chain = sees (object_pages shape chain) then (λ found. give (chain, found))

pub owned_plan : (shape : FileShape) (row : CatalogRow)
    → (chain_of shape row then (λ chain. sees (byte_pages shape chain) then (λ pages. bytes_read shape pages then (λ _. objects_found shape chain)))) ≡ owned_read shape row
owned_plan shape row = sym (
    then_assoc (chain_of shape row) _ (objects_found shape) ∙ then_same (chain_of shape row) (λ chain.
    then_assoc (sees (byte_pages shape chain)) _ (objects_found shape) ∙ then_same (sees (byte_pages shape chain)) (λ pages.
    then_assoc (bytes_read shape pages) _ (objects_found shape) ∙ then_same (bytes_read shape pages) (λ _. give_then chain (objects_found shape))))
    )
