-- A statement that has read the chain of its object has reached each page of it.
use Rattle.std.proofs.Common.{◌≡◌, ℕ, zero, suc, Bool, not, List, [], ◌∷◌, ◌++◌, length, Contains, subst}
use Rattle.std.specs.Prelude.{if◌then◌else◌, ◌||◌, ◌==◌}
use Rattle.std.proofs.lemmas.Bool.{cond_both}
use Rattle.std.proofs.lemmas.List.{append_assoc}
use Rattle.std.proofs.lemmas.List.Elements.{Contains-append_left}
use Rattle.spec_file.specs.declared.data.Resource.TheVariants as resource
use Rattle.spec_file.specs.Image.{page}
use Rattle.spec_file.specs.Places.{is_inside}
use Rattle.spec_file.specs.CatalogRows.{CatalogRow}
use Rattle.spec_chain.specs.Chains.{is_last, next_of}
use Rattle.spec_plan.specs.Reading.{are_slots_inside}
use Rattle.spec_words.specs.NetChanges.{FileShape}
use Rattle.spec_words.specs.Views.{View, Plan, Gives}
use Rattle.spec_words.specs.Words.{◌then◌, give, refuse, sees, look, where_good}
use Rattle.spec_words.specs.Tables.{is_chain_page, chain_from, chain_of, byte_pages, bytes_read, object_pages}
use Rattle.spec_alloc.specs.Chains.{chain_now}
use Rattle.db_alloc.specs.Drops.{owned_read}
use Rattle.db_alloc.proofs.Reaches.{Ends, ends_then, ends_look, ends_good, any_ends, weaker, by_ending}

-- each page of these was met before, or was reached
abbrev HasMet : List ℕ → List ℕ → List ℕ → Type 0
HasMet met reached chain = (q : ℕ) → Contains chain q → Contains (met ++ reached) q

-- the rest of a chain behind page p
abbrev link_rest : ℕ → FileShape → CatalogRow → List ℕ → ℕ → Plan (List ℕ)
link_rest n shape row met p =
    look (resource.Page (record { 0 = p })) p then (λ bytes.
    where_good (is_chain_page shape row met p bytes) p then (λ _.
    sees (λ view. not (length met == 0) || are_slots_inside view.now p) then (λ slots.
    where_good slots p then (λ _.
    chain_from n shape row (met ++ p ∷ []) p (next_of bytes)))))

met_later : (met reached chain : List ℕ) (p : ℕ) → HasMet (met ++ p ∷ []) reached chain → HasMet met (p ∷ reached) chain
met_later met reached chain p h = λ q has. subst (λ (ps : List ℕ). Contains ps q) (append_assoc met (p ∷ []) reached) (h q has)

chain_end : (n : ℕ) (shape : FileShape) (row : CatalogRow) (met : List ℕ) (from p : ℕ) (v : View) → Ends (chain_from n shape row met from p v) (λ reached chain w. HasMet met reached chain)
unfolding refuse give sees
chain_end zero shape row met from p v = tt
chain_end (suc n) shape row met from p v =
    let K : List ℕ → List ℕ → View → Type 0 = λ reached chain w. HasMet met reached chain in
    let r = resource.Page (record { 0 = p }) in
    let asked : View → Bool = λ view. not (length met == 0) || are_slots_inside view.now p in
    let more : ℕ → Plan (List ℕ) = λ next. chain_from n shape row (met ++ p ∷ []) p next in
    let checked : ℕ → Bool → Plan (List ℕ) = λ next slots. where_good slots p then (λ _. more next) in
    let seen : ℕ → Plan (List ℕ) = λ next. sees asked then checked next in
    let read : List ℕ → Plan (List ℕ) = λ bytes. where_good (is_chain_page shape row met p bytes) p then (λ _. seen (next_of bytes)) in
    let bytes = page v.now p in
    let next = next_of bytes in
    cond_both (is_last (length met) p) (give met) (where_good (is_inside shape.pages p) from then (λ _. link_rest n shape row met p)) (λ plan. Ends (plan v) K)
    (λ e q has. Contains-append_left met [] q has)
    (λ e.
    ends_then (where_good (is_inside shape.pages p) from) (λ _. link_rest n shape row met p) v K
    (ends_good (is_inside shape.pages p) from v (λ reached u w. Ends (link_rest n shape row met p w) (λ more y x. K (reached ++ more) y x))
    (ends_then (look r p) read v K
    (ends_look r p v (λ reached bytes w. Ends (read bytes w) (λ more y x. K (reached ++ more) y x))
    (ends_then (where_good (is_chain_page shape row met p bytes) p) (λ _. seen next) v (λ more y x. K (p ∷ more) y x)
    (ends_good (is_chain_page shape row met p bytes) p v (λ reached u w. Ends (seen next w) (λ more y x. K (p ∷ reached ++ more) y x))
    (ends_then (sees asked) (checked next) v (λ more y x. K (p ∷ more) y x)
    (ends_then (where_good (asked v) p) (λ _. more next) v (λ more y x. K (p ∷ more) y x)
    (ends_good (asked v) p v (λ reached u w. Ends (more next w) (λ more y x. K (p ∷ reached ++ more) y x))
    (weaker (λ chain w. HasMet (met ++ p ∷ []) (more next v).reached chain) (λ chain w. HasMet met (p ∷ (more next v).reached) chain) (more next v).ending
    (λ chain w h. met_later met (more next v).reached chain p h)
    (chain_end n shape row (met ++ p ∷ []) p next v)))))))))))

-- the pages of the chain were reached
abbrev ChainReached : List ℕ → List ℕ → Type 0
ChainReached reached chain = (q : ℕ) → Contains chain q → Contains reached q

now_end : (shape : FileShape) (row : CatalogRow) (v : View) → Ends (chain_now shape row v) (λ reached chain w. ChainReached reached chain)
unfolding sees give
now_end shape row v =
    let now : List ℕ → Plan (List ℕ) = λ chain. sees (byte_pages shape chain) then (λ pages. bytes_read shape pages then (λ _. give chain)) in
    let first = (chain_of shape row v).reached in
    ends_then (chain_of shape row) now v (λ reached chain w. ChainReached reached chain)
    (weaker (λ chain w. HasMet [] first chain) _ (chain_of shape row v).ending (λ chain u met.
    let ps = byte_pages shape chain u in
    ends_then (sees (byte_pages shape chain)) (λ pages. bytes_read shape pages then (λ _. give chain)) u (λ reached c w. ChainReached (first ++ reached) c)
    (ends_then (bytes_read shape ps) (λ _. give chain) u (λ reached c w. ChainReached (first ++ reached) c)
    (any_ends _ (bytes_read shape ps u).ending (λ s w q has. Contains-append_left first ((bytes_read shape ps u).reached ++ []) q (met q has)))))
    (chain_end (suc (suc shape.pages)) shape row [] 9 row.first_iam v))

owned_end : (shape : FileShape) (row : CatalogRow) (v : View) → Ends (owned_read shape row v) (λ reached found w. ChainReached reached found.0)
unfolding sees give
owned_end shape row v =
    let after : List ℕ → Plan (List ℕ × List ℕ) = λ chain. sees (object_pages shape chain) then (λ pages. give (chain, pages)) in
    let first = (chain_now shape row v).reached in
    ends_then (chain_now shape row) after v (λ reached found w. ChainReached reached found.0)
    (weaker (λ chain w. ChainReached first chain) _ (chain_now shape row v).ending (λ chain w reached.
    ends_then (sees (object_pages shape chain)) (λ pages. give (chain, pages)) w (λ more found x. ChainReached (first ++ more) found.0)
    (λ q has. Contains-append_left first [] q (reached q has)))
    (now_end shape row v))

pub chain_reached : (shape : FileShape) (row : CatalogRow) (v w : View) (chain pages : List ℕ) → (owned_read shape row v).ending ≡ Gives (chain, pages) w
    → (q : ℕ) → Contains chain q → Contains (owned_read shape row v).reached q
chain_reached shape row v w chain pages given =
    by_ending (λ found w. ChainReached (owned_read shape row v).reached found.0) (owned_read shape row v).ending (chain, pages) w given (owned_end shape row v)
