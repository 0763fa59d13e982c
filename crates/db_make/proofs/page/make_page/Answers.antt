use Rattle.std.proofs.Common.{sym, ◌∙◌, inl, inr}
use Rattle.spec_file.specs.declared.role.Role.TheVariants as role
use Rattle.spec_make.proofs.PageLaws.{page-by_role}
use Rattle.db_make.proofs.Started.{zero_parts}
use Rattle.db_make.proofs.page.make_page.Goals as goal

pub returns-in-FileHeader : goal.returns-in-FileHeader
returns-in-FileHeader c = c.make_first.ensures ∙ sym (page-by_role c.args.g c.args.pages c.args.p.0 role.FileHeader (sym c.in-FileHeader.ensures))

pub returns-in-Pfs : goal.returns-in-Pfs
returns-in-Pfs c = c.make_pfs.ensures ∙ sym (page-by_role c.args.g c.args.pages c.args.p.0 role.Pfs (sym c.in-Pfs.ensures))

pub returns-in-Gam : goal.returns-in-Gam
returns-in-Gam c = c.make_gam.ensures ∙ sym (page-by_role c.args.g c.args.pages c.args.p.0 role.Gam (sym c.in-Gam.ensures))

pub returns-in-Sgam : goal.returns-in-Sgam
returns-in-Sgam c = c.make_sgam.ensures ∙ sym (page-by_role c.args.g c.args.pages c.args.p.0 role.Sgam (sym c.in-Sgam.ensures))

pub returns-in-Boot : goal.returns-in-Boot
returns-in-Boot c = c.start_page.ensures ∙ sym (page-by_role c.args.g c.args.pages c.args.p.0 role.Boot (sym c.in-Boot.ensures))

pub returns-in-Reserved : goal.returns-in-Reserved
returns-in-Reserved c =
    let g = c.args.g in
    let pages = c.args.pages in
    let p = c.args.p.0 in
    c.clear.ensures ∙ zero_parts ∙ elim c.in-Reserved.is [
      | inl is ↦ sym (page-by_role g pages p role.Reserved (sym c.role_of.ensures ∙ is))
      | inr is ↦ sym (page-by_role g pages p role.Ordinary (sym c.role_of.ensures ∙ is))
    ]
