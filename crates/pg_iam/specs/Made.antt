-- The header of a new IAM page.
use Rattle.spec_file.specs.declared.data.PageNo.{PageNo}
use Rattle.spec_file.specs.declared.data.ObjId.{ObjId}
use Rattle.spec_file.specs.declared.header.Header.{Header}
use Rattle.spec_file.specs.declared.page_type.TheConstants.{IAM_TYPE}

-- an IAM page behind `prev` and last in its chain, with neither rows nor room for them
abbrev pub new_header : PageNo → ObjId → PageNo → Header
new_header p object prev = record {
  page_type = IAM_TYPE;
  level = 0;
  page_id = p;
  object = object;
  prev = prev;
  next = record { 0 = 0 };
  slots = 0;
  free_count = 0;
  free_from = 0;
  ghosts = 0;
}
